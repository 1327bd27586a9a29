use Rattle.std.proofs.Common.{◌≡◌, ◌++◌, take, drop}
use Rattle.serial_transfer.specs.Bursts.{bytes_in}
use Rattle.serial_transfer.proofs.transfer.Transfer.shift_bytes_in.Given as goal

-- the bytes below i are in
abbrev pub invariant-loop-i : goal.invariant-loop-i
invariant-loop-i l =
    (l.landings ≡ (bytes_in (take l.i l.bytes) l.initial.self.phase).0 ++ drop l.i l.initial.landings) × (l.self.phase ≡ (bytes_in (take l.i l.bytes) l.initial.self.phase).1)
