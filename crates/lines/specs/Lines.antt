-- The bench's two lines, byte for byte, and what a line call leaves in its buffer.
use Rattle.std.specs.Prelude.{ℕ, cond, List, ◌++◌, length, drop, Ok, Err, codes, decimal, Result, nat_lt}
use Rattle.std.specs.List.{flat_map}
use Rattle.refusals.specs.declared.Refusal.{Refusal}
use Rattle.refusals.specs.declared.Refusal.TheVariants.{ShortBuffer}
use Rattle.lines.specs.Words.{origin_word, hex_byte}
use Rattle.lines.specs.declared.origin.Origin.{Origin}

-- a print record's line: its number, a space, two digits for each register and a line feed
abbrev pub record_text : ℕ → List ℕ → List ℕ
record_text number registers = decimal number ++ codes " " ++ flat_map hex_byte registers ++ codes "\n"

-- a fault's line: the refusal's number, the place of the record and who refused
abbrev pub fault_text : ℕ → ℕ → Origin → List ℕ
fault_text number place origin = codes "fault " ++ decimal number ++ codes " at " ++ decimal place ++ codes " in " ++ origin_word origin ++ codes "\n"

-- A line call on a buffer: one under 64 bytes is refused and left as it was;
-- else the answer is the line's length, the line stands at the front and the rest stays.
abbrev pub line_into : List ℕ → List ℕ → Result ℕ Refusal × List ℕ
line_into line out = cond (nat_lt (length out) 64) (Err ShortBuffer, out) (Ok (length line), line ++ drop (length line) out)

abbrev pub record_line : ℕ → List ℕ → List ℕ → Result ℕ Refusal × List ℕ
record_line number registers out = line_into (record_text number registers) out

abbrev pub fault_line : ℕ → ℕ → Origin → List ℕ → Result ℕ Refusal × List ℕ
fault_line number place origin out = line_into (fault_text number place origin) out
