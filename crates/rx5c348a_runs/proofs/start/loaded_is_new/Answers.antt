use Rattle.rx5c348a_runs.proofs.Runs.{loaded_is_new}
use Rattle.rx5c348a_runs.proofs.start.loaded_is_new.Goals as goal

pub returns : goal.returns
returns c = loaded_is_new
