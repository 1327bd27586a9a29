-- Whole bytes on the wires: eight bits, each a rise and a fall of SCLK, the highest first.
use Rattle.std.specs.Prelude.{ℕ, zero, suc, List, [], ◌∷◌, Some, None, Option}
use Rattle.std.specs.Option.{option_or}
use Rattle.serial_transfer.specs.declared.phase.SerialOut.{SerialOut}
use Rattle.serial_transfer.specs.declared.phase.Landing.{Landing}
use Rattle.serial_transfer.specs.declared.phase.Phase.{Phase}
use Rattle.serial_transfer.specs.Levels.{taken, bit_at, out_number}
use Rattle.serial_transfer.specs.Rules.{out_in, due_in, risen, fallen}

-- the lowest so many bits of a byte, highest first
unfoldable pub low_bits : ℕ → ℕ → List ℕ
low_bits byte zero = []
low_bits byte (suc n) = bit_at byte n ∷ low_bits byte n

-- the eight bits of a byte
abbrev pub bits_of : ℕ → List ℕ
bits_of byte = low_bits byte 8

-- what has landed so far, and the phase: the later landing counts
abbrev pub and_landed : Option Landing → Option Landing × Phase → Option Landing × Phase
and_landed before s = (option_or s.0 before, s.1)

-- Levels put on SI one after another, SCLK rising and falling with each: what has landed, and the phase then.
unfoldable pub levels_in : List ℕ → Option Landing × Phase → Option Landing × Phase
levels_in [] s = s
levels_in (si ∷ levels) s = levels_in levels (and_landed s.0 (fallen (risen s.1 0) si))

-- A byte shifted in.
abbrev pub byte_in : ℕ → Phase → Option Landing × Phase
byte_in byte phase = levels_in (bits_of byte) (None, phase)

-- one bit from SO: what stands there once SCLK has risen, and the phase once it has fallen with SI low
abbrev pub clocked_out : ℕ → Phase → SerialOut × Phase
clocked_out due phase = (out_in (risen phase due), (fallen (risen phase due) 0).1)

-- a level of SO before those that follow
abbrev pub with_level : SerialOut → List SerialOut × Phase → List SerialOut × Phase
with_level out s = (out ∷ s.0, s.1)

-- What stands on SO after each of so many rises, and the phase after the last fall.
unfoldable pub levels_out : ℕ → ℕ → Phase → List SerialOut × Phase
levels_out zero due phase = ([], phase)
levels_out (suc n) due phase = with_level (clocked_out due phase).0 (levels_out n due (clocked_out due phase).1)

-- what levels on SO spell, behind the bits that are in
unfoldable pub spelt : ℕ → List SerialOut → ℕ
spelt gathered [] = gathered
spelt gathered (out ∷ outs) = spelt (taken gathered (out_number out)) outs

-- what was given where a byte was due, and the phase then
abbrev pub given_if : Option ℕ → List SerialOut × Phase → Phase → Option ℕ × Phase
given_if None s phase = (None, phase)
given_if (Some address) s phase = (Some (spelt 0 s.0), s.1)

-- A byte shifted out, where one is due; nothing is driven where none is.
abbrev pub byte_out : ℕ → Phase → Option ℕ × Phase
byte_out due phase = given_if (due_in phase) (levels_out 8 due phase) phase
