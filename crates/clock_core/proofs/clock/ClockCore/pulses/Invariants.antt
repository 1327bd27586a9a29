use Rattle.std.proofs.Common.{◌≡◌, ◌≤◌}
use Rattle.clock_core.specs.Core.{many_pulses}
use Rattle.clock_core.specs.View.{meant}
use Rattle.clock_core.proofs.clock.ClockCore.pulses.Given as goal

abbrev pub invariant-loop-left : goal.invariant-loop-left
invariant-loop-left g l =
    (l.left ≤ 1048576) × (many_pulses g.M.RegisterMap.chart l.left (meant g.M.RegisterMap l.self) ≡ many_pulses g.M.RegisterMap.chart l.count (meant g.M.RegisterMap l.initial.self))

abbrev pub decreases-loop-left : goal.decreases-loop-left
decreases-loop-left g l = l.left
