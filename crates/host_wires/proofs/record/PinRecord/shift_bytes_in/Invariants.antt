use Rattle.std.proofs.Common.{◌≡◌, take}
use Rattle.rx5c348a.specs.Part.{seen}
use Rattle.host_wires.specs.Record.{wired}
use Rattle.host_wires.specs.Shifting.{bytes_in}
use Rattle.host_wires.proofs.record.PinRecord.shift_bytes_in.Given as goal

abbrev pub invariant-loop-byte : goal.invariant-loop-byte
invariant-loop-byte l =
    wired l.self (seen l.part) ≡ bytes_in (take l.byte-index l.bytes) (wired l.initial.self (seen l.initial.part))
