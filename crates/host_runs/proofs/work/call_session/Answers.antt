use Rattle.std.proofs.Common.{rules}
use Rattle.host_runs.proofs.Seats.{no_session, stepped_there}
use Rattle.host_runs.proofs.work.call_session.Goals as goal

pub returns-then-number-sessions : goal.returns-then-number-sessions
returns-then-number-sessions c = search (rules, stepped_there)

pub returns-else-number-sessions : goal.returns-else-number-sessions
returns-else-number-sessions c = search (rules, no_session)
