use Rattle.std.proofs.Common.{refl, arith}
use Rattle.host_runs.proofs.Rows.{filled_none, filled_more}
use Rattle.host_runs.proofs.work.work_in_turn.Goals as goal

pub loop-place-init : goal.loop-place-init
loop-place-init c = filled_none _ _ _

pub loop-place-preserved : goal.loop-place-preserved
loop-place-preserved c =
    filled_more _ _ _ _ _ _ c.loop-place.place _ _ _ (omega arith) (omega arith) refl c.work_into.ensures c.loop-place.invariant
