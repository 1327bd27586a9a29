use Rattle.digit_map.specs.Cells.{digit_chart}
use Rattle.digit_map.specs.RowLaws.{digit_chart_lawful}
use Rattle.timekeeping.proofs.Loads.{loads_new}
use Rattle.msm62x42_runs.proofs.start.loaded_is_new.Goals as goal

pub returns : goal.returns
returns c = λ s moment weekday mode e. loads_new digit_chart digit_chart_lawful s moment weekday 0 mode e
