use Rattle.std.proofs.Common.{◌≡◌}
use Rattle.serial_transfer.specs.Bytes.{low_bits, levels_in, byte_in}
use Rattle.serial_transfer.proofs.transfer.Transfer.shift_in.Given as goal

-- the bits below this place, from here, bring what all of them bring from the start
abbrev pub invariant-loop-place : goal.invariant-loop-place
invariant-loop-place l = levels_in (low_bits l.byte l.place) (l.landing, l.self.phase) ≡ byte_in l.byte l.initial.self.phase
