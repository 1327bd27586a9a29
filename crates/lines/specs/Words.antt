-- The words and digits that the bench's lines are made of, as bytes.
use Rattle.std.specs.Prelude.{ℕ, ◌+◌, ◌/◌, ◌%◌, cond, List, [], ◌∷◌, codes, nat_lt}
use Rattle.lines.specs.declared.origin.Origin.{Origin}
use Rattle.lines.specs.declared.origin.Origin.TheVariants.{Tape, Part}

-- who refused
abbrev pub origin_word : Origin → List ℕ
origin_word Tape = codes "tape"
origin_word Part = codes "part"

-- a hexadecimal digit, in capitals
abbrev pub hex_digit : ℕ → ℕ
hex_digit d = cond (nat_lt d 10) (48 + d) (55 + d)

-- a byte as two digits
abbrev pub hex_byte : ℕ → List ℕ
hex_byte b = hex_digit (b / 16) ∷ hex_digit (b % 16) ∷ []
