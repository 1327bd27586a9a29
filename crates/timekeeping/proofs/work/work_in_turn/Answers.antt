use Rattle.std.proofs.Common.{arith}
use Rattle.timekeeping.specs.Logs.{machine_of}
use Rattle.timekeeping.proofs.Rows.{filled_none, filled_more}
use Rattle.timekeeping.proofs.work.work_in_turn.Goals as goal

pub loop-place-init : goal.loop-place-init
loop-place-init g c = filled_none (machine_of g.C.Call.step g.C.Call.core g.C.Call.sight) _ _ _

pub loop-place-preserved : goal.loop-place-preserved
loop-place-preserved g c =
    filled_more (machine_of g.C.Call.step g.C.Call.core g.C.Call.sight) _ _ _ _ _ _ c.loop-place.place _ _ (omega arith) (omega arith) c.index-calls-place.is c.work_into.ensures c.loop-place.invariant
