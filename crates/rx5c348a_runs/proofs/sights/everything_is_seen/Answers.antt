use Rattle.rx5c348a_runs.proofs.Complete.{everything_is_seen}
use Rattle.rx5c348a_runs.proofs.sights.everything_is_seen.Goals as goal

pub returns : goal.returns
returns c = everything_is_seen
