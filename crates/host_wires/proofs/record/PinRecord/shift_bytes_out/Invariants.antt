use Rattle.std.proofs.Common.{◌≡◌, ◌++◌, drop}
use Rattle.rx5c348a.specs.Part.{seen}
use Rattle.host_wires.specs.Record.{wired}
use Rattle.host_wires.specs.Shifting.{bytes_out}
use Rattle.host_wires.proofs.record.PinRecord.shift_bytes_out.Given as goal

abbrev pub invariant-loop-byte : goal.invariant-loop-byte
invariant-loop-byte l =
    (l.buffer ≡ (bytes_out l.byte-index (wired l.initial.self (seen l.initial.part))).0 ++ drop l.byte-index l.initial.buffer) × (wired l.self (seen l.part) ≡ (bytes_out l.byte-index (wired l.initial.self (seen l.initial.part))).1)
