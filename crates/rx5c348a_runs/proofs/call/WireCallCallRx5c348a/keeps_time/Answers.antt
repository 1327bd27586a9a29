use Rattle.rx5c348a_runs.proofs.Runs.{part_law}
use Rattle.rx5c348a_runs.proofs.call.WireCallCallRx5c348a.keeps_time.Goals as goal

pub returns : goal.returns
returns c = part_law
