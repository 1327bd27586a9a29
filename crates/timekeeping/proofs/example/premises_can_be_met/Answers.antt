use Rattle.timekeeping.proofs.Examples.{meets_premises}
use Rattle.timekeeping.proofs.example.premises_can_be_met.Goals as goal

pub returns : goal.returns
returns c = meets_premises
