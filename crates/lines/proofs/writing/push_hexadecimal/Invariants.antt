use Rattle.std.proofs.Common.{◌≡◌, ◌+◌, ◌*◌, ◌++◌, length, take}
use Rattle.std.specs.List.{flat_map}
use Rattle.lines.specs.Words.{hex_byte}
use Rattle.lines.proofs.writing.push_hexadecimal.Given as goal

abbrev pub invariant-loop-byte : goal.invariant-loop-byte
invariant-loop-byte l =
    (l.line.bytes ≡ l.initial.line.bytes ++ flat_map hex_byte (take l.byte-index l.bytes)) × (length l.line.bytes ≡ length l.initial.line.bytes + 2 * l.byte-index)
