use Rattle.rx5c348a_runs.proofs.Examples.{premises_can_be_met}
use Rattle.rx5c348a_runs.proofs.example.premises_can_be_met.Goals as goal

pub returns : goal.returns
returns c = premises_can_be_met
