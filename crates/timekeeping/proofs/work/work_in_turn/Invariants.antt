use Rattle.timekeeping.specs.Logs.{machine_of}
use Rattle.timekeeping.proofs.Rows.{Filled}
use Rattle.timekeeping.proofs.work.work_in_turn.Given as goal

abbrev pub invariant-loop-place : goal.invariant-loop-place
invariant-loop-place g l =
    Filled (machine_of g.C.Call.step g.C.Call.core g.C.Call.sight) (g.C.Call.seen l.initial.thing) (g.C.Call.seen l.thing) l.calls l.initial.answers l.answers l.place
