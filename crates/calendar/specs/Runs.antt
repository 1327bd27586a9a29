-- Runs of days, one after the other: a list of their lengths.
use Rattle.std.specs.Prelude.{ℕ, zero, suc, ◌+◌, ◌-◌, Bool, true, false, List, [], ◌∷◌, nat_lt}

-- Where a day falls: the number of its run, from 0, and how many days of that run are past.
pub record Place : Type 0 where
  pub run : ℕ
  pub past : ℕ

-- The two together.
abbrev pub placed : ℕ → ℕ → Place
placed run past = record { run = run; past = past }

-- In the first run if the day is below its length, else in a later one
abbrev pub first_or : Bool → ℕ → Place → Place
first_or true day later = placed 0 day
first_or false day later = placed (suc later.run) later.past

-- Where the day of a given number falls
unfoldable pub place : List ℕ → ℕ → Place
place [] day = placed 0 day
place (length ∷ rest) day = first_or (nat_lt day length) day (place rest (day - length))

-- How many days stand before a run
unfoldable pub start : List ℕ → ℕ → ℕ
start [] run = 0
start (length ∷ rest) zero = 0
start (length ∷ rest) (suc run) = length + start rest run
