use Rattle.msm62x42_runs.proofs.PartSights.{part_law}
use Rattle.msm62x42_runs.proofs.call.PartCallCallMsm62x42.keeps_time.Goals as goal

pub returns : goal.returns
returns c = λ start _ calls. part_law start calls
