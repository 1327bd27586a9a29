-- The months of a year and their lengths.
use Rattle.std.specs.Prelude.{ℕ, ◌-◌, ◌%◌, Bool, cond, ◌&&◌, List, [], ◌∷◌, map, ◌==◌, slice_index}
use Rattle.std.specs.List.{range_with_len}

-- Every fourth year is leap, the years 00 of both centuries among them.
abbrev pub leap : ℕ → Bool
leap year = year % 4 == 0

-- The lengths of the twelve months in a common year.
abbrev pub common_lengths : List ℕ
common_lengths = 31 ∷ 28 ∷ 31 ∷ 30 ∷ 31 ∷ 30 ∷ 31 ∷ 31 ∷ 30 ∷ 31 ∷ 30 ∷ 31 ∷ []

-- The days of a month, counted from 1: in a leap year February has 29.
abbrev pub length_when : Bool → ℕ → ℕ
length_when leap month = cond (month == 2 && leap) 29 (slice_index common_lengths (month - 1))

-- The days of a month of a year.
abbrev pub month_length : ℕ → ℕ → ℕ
month_length year month = length_when (leap year) month

-- The twelve lengths, in a leap year or in a common one.
unfoldable pub month_lengths : Bool → List ℕ
month_lengths leap = map (length_when leap) (range_with_len 1 12)
