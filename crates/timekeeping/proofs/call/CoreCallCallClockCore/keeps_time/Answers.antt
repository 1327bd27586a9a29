use Rattle.timekeeping.proofs.CoreSights.{core_law}
use Rattle.timekeeping.proofs.call.CoreCallCallClockCore.keeps_time.Goals as goal

pub returns : goal.returns
returns g c = λ start _ calls. core_law g.M.RegisterMap.chart g.met.M.RegisterMap.lawful start calls
