use Rattle.std.proofs.Common.{◌≡◌}
use Rattle.rx5c_registers.specs.File.{file_seen}
use Rattle.rx5c_registers.specs.Clock.{pulses_taken}
use Rattle.rx5c_registers.proofs.file.RegisterFile.take_pulses.Given as goal

abbrev pub invariant-loop-left : goal.invariant-loop-left
invariant-loop-left l = pulses_taken l.left (file_seen l.self) ≡ pulses_taken l.count (file_seen l.initial.self)

abbrev pub decreases-loop-left : goal.decreases-loop-left
decreases-loop-left l = l.left
