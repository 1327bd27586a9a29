use Rattle.std.proofs.Common.{◌≡◌, ◌-◌}
use Rattle.serial_transfer.proofs.Clocks.{spelt_on}
use Rattle.serial_transfer.proofs.transfer.Transfer.shift_out.Given as goal

-- the bits that are left, from here, spell what all of them spell from the start
abbrev pub invariant-loop : goal.invariant-loop
invariant-loop l = spelt_on l.due_byte (8 - l.counter) l.gathered l.self.phase ≡ spelt_on l.due_byte 8 0 l.initial.self.phase
