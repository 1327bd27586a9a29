use Rattle.std.proofs.Common.{◌≡◌}
use Rattle.rx5c348a.specs.Part.{seen}
use Rattle.host_wires.specs.Record.{wired}
use Rattle.host_wires.specs.Shifting.{bits_in, low_levels, byte_in}
use Rattle.host_wires.proofs.record.PinRecord.shift_in.Given as goal

-- the bits below this place, from here, leave what all of them leave from the start
abbrev pub invariant-loop-place : goal.invariant-loop-place
invariant-loop-place l = bits_in (low_levels l.byte l.place) (wired l.self (seen l.part)) ≡ byte_in l.byte (wired l.initial.self (seen l.initial.part))
