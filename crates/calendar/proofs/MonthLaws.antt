-- The lengths of the months, month by month.
use Rattle.std.proofs.Common.{◌≡◌, ℕ, zero, suc, ◌+◌, ◌-◌, ◌%◌, ◌<◌, ◌≤◌, Bool, true, false, List, [], ◌∷◌, length, get_or, refl, subst, arith}
use Rattle.std.proofs.lemmas.List.FromFn.{get_or-map-range_with_len}
use Rattle.std.proofs.lemmas.Bool.{eqb-true, eqb-false}
use Rattle.calendar.specs.Runs.{start}
use Rattle.calendar.proofs.RunLaws.{start_more, start_up}
use Rattle.calendar.specs.Dates.{year_start}
use Rattle.calendar.specs.Months.{leap, length_when, month_length, month_lengths}

pub twelve : (b : Bool) → length (month_lengths b) ≡ 12
unfolding month_lengths
twelve true = refl
twelve false = refl

-- P of every number of the list
abbrev Each : (ℕ → Type 0) → List ℕ → Type 0
Each P [] = Unit {0}
Each P (x ∷ xs) = P x × Each P xs

at_each : (P : ℕ → Type 0) (xs : List ℕ) → Each P xs → (k : ℕ) → k < length xs → P (get_or xs k 0)
at_each P [] w k h = absurd (omega arith)
at_each P (x ∷ xs) w zero h = w.0
at_each P (x ∷ xs) w (suc k) h = at_each P xs w.1 k (omega arith)

abbrev pub Usual : ℕ → Type 0
Usual x = (1 ≤ x) × (x ≤ 31)

-- a month has at least one day and at most 31
pub usual : (b : Bool) (k : ℕ) → k < 12 → Usual (get_or (month_lengths b) k 0)
unfolding month_lengths
usual true k h = at_each Usual (month_lengths true) (omega arith) k h
usual false k h = at_each Usual (month_lengths false) (omega arith) k h

-- a month's length in the list
pub listed : (b : Bool) (month : ℕ) → 1 ≤ month → month ≤ 12 → get_or (month_lengths b) (month - 1) 0 ≡ length_when b month
unfolding month_lengths
listed b month h k = get_or-map-range_with_len (length_when b) 1 12 (month - 1) month 0 (omega arith) (omega arith)

pub usual_length : (year month : ℕ) → 1 ≤ month → month ≤ 12 → Usual (month_length year month)
usual_length year month h k = subst Usual (listed (leap year) month h k) (usual (leap year) (month - 1) (omega arith))

-- no date has a day over 31
pub day_at_most : (year month day : ℕ) → 1 ≤ month → month ≤ 12 → day ≤ month_length year month → day ≤ 31
day_at_most year month day h k i = omega (arith, usual_length year month h k)

-- the twelve months make up the year
pub whole_year : (y : ℕ) → year_start y + start (month_lengths (leap y)) 12 ≡ year_start (y + 1)
unfolding month_lengths start
whole_year y = whole_by (leap y) refl
  where
    whole_by : (b : Bool) → leap y ≡ b → year_start y + start (month_lengths b) 12 ≡ year_start (y + 1)
    whole_by true e = omega (arith, eqb-true (y % 4) 0 e)
    whole_by false e = omega (arith, eqb-false (y % 4) 0 e)

-- a year has at most 366 days
pub year_at_most : (b : Bool) → start (month_lengths b) 12 ≤ 366
unfolding month_lengths start
year_at_most true = omega arith
year_at_most false = omega arith

pub before_year_ends : (b : Bool) (month : ℕ) → start (month_lengths b) month ≤ start (month_lengths b) 12
before_year_ends b month = rw (twelve b) at (start_up (month_lengths b) month)

-- a month ends where the next one starts
pub month_ends : (b : Bool) (month : ℕ) → 1 ≤ month → month ≤ 12 → start (month_lengths b) (month - 1) + length_when b month ≡ start (month_lengths b) month
month_ends b month h k =
    let e : suc (month - 1) ≡ month = omega arith in
    let i : month - 1 < length (month_lengths b) = omega (arith, twelve b) in
    let next : start (month_lengths b) month ≡ start (month_lengths b) (month - 1) + get_or (month_lengths b) (month - 1) 0 = rw e at (start_more (month_lengths b) (month - 1) i) in
    omega (arith, next, listed b month h k)

-- the same, as a loop over the months meets it
pub month_more : (b : Bool) (month : ℕ) → 1 ≤ month → month ≤ 12 → start (month_lengths b) (month - 1) + length_when b month ≡ start (month_lengths b) (month + 1 - 1)
month_more b month h k =
    let e : month + 1 - 1 ≡ month = omega arith in
    rw e (month_ends b month h k)

december : (b : Bool) → length_when b 12 ≡ 31
december true = refl
december false = refl

-- what is left after eleven months falls in the twelfth
pub in_december : (b : Bool) (month rest day : ℕ) → month ≡ 12 → start (month_lengths b) (month - 1) + rest ≡ day → day < start (month_lengths b) 12 → (rest < 31) × (start (month_lengths b) 11 + rest ≡ day)
in_december b month rest day e i h =
    let i' : start (month_lengths b) 11 + rest ≡ day = subst (λ (m : ℕ). start (month_lengths b) (m - 1) + rest ≡ day) e i in
    (omega (arith, month_ends b 12 (omega arith) (omega arith), december b), i')
