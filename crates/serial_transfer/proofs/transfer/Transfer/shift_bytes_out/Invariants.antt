use Rattle.std.proofs.Common.{◌≡◌, ◌++◌, drop}
use Rattle.serial_transfer.specs.Bursts.{registers_out}
use Rattle.serial_transfer.proofs.transfer.Transfer.shift_bytes_out.Given as goal

-- the front of the buffer is filled
abbrev pub invariant-loop-byte : goal.invariant-loop-byte
invariant-loop-byte l =
    (l.given ≡ (registers_out l.registers l.byte-index l.initial.self.phase).0 ++ drop l.byte-index l.initial.given) × (l.self.phase ≡ (registers_out l.registers l.byte-index l.initial.self.phase).1)
