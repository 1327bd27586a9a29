-- Dates and day numbers are each other's inverse, and the date of the next day is the next date.
use Rattle.std.proofs.Common.{◌≡◌, ℕ, ◌+◌, ◌-◌, ◌%◌, ◌<◌, ◌≤◌, Bool, true, false, ltb, length, get_or, sym, refl, ap, ◌∙◌, mod-eq_of_lt, arith}
use native.Mathlib.Nat.{mod_self}
use Rattle.std.proofs.lemmas.Bool.{ltb-true, ltb-false}
use Rattle.calendar.specs.Runs.{place, start}
use Rattle.calendar.specs.Months.{leap, month_lengths, month_length}
use Rattle.calendar.specs.Dates.{CivilDate, date, LawfulDate, year_start, day_number, year_of_day, date_in_year, date_of_day, new_year, next_month, next_day, next_date}
use Rattle.calendar.proofs.RunLaws.{start_none, place_of_start, falls}
use Rattle.calendar.proofs.MonthLaws.{twelve, listed, usual_length, whole_year, before_year_ends, month_ends}

-- the day of the year, from 0
abbrev pub day_of_year : CivilDate → ℕ
day_of_year d = start (month_lengths (leap d.year)) (d.month - 1) + (d.day - 1)

its_month_ends : (d : CivilDate) → LawfulDate d → start (month_lengths (leap d.year)) (d.month - 1) + month_length d.year d.month ≡ start (month_lengths (leap d.year)) d.month
its_month_ends d ok = month_ends (leap d.year) d.month ok.from_january ok.to_december

-- a date lies within its year
pub within_year : (d : CivilDate) → LawfulDate d → day_of_year d < start (month_lengths (leap d.year)) 12
within_year d ok =
    omega (arith, its_month_ends d ok, before_year_ends (leap d.year) d.month, ok.from_first, ok.to_last)

-- so many days into a month is that day of it
pub in_month : (y m rest : ℕ) → 1 ≤ m → m ≤ 12 → rest < month_length y m → date y m (rest + 1) ≡ date_in_year y (start (month_lengths (leap y)) (m - 1) + rest)
unfolding date_in_year
in_month y m rest h k i =
    let j : m - 1 < length (month_lengths (leap y)) = omega (arith, twelve (leap y)) in
    let month : m - 1 + 1 ≡ m = omega arith in
    let inside : rest < get_or (month_lengths (leap y)) (m - 1) 0 = omega (arith, listed (leap y) m h k) in
    rw (place_of_start (month_lengths (leap y)) (m - 1) rest j inside, month)

pub date_in_year_of : (d : CivilDate) → LawfulDate d → date_in_year d.year (day_of_year d) ≡ d
date_in_year_of d ok =
    let day : d.day - 1 + 1 ≡ d.day = omega (arith, ok.from_first) in
    sym (rw day at (in_month d.year d.month (d.day - 1) ok.from_january ok.to_december (omega (arith, ok.from_first, ok.to_last))))

pub year_of_number : (y n : ℕ) → n < start (month_lengths (leap y)) 12 → year_of_day (year_start y + n) ≡ y
year_of_number y n h = omega (arith, whole_year y)

pub split_number : (d : CivilDate) → day_number d ≡ year_start d.year + day_of_year d
split_number d = omega arith

-- the date of a date's number is that date
pub date_of_number : (d : CivilDate) → LawfulDate d → date_of_day (day_number d) ≡ d
date_of_number d ok =
    let y = year_of_number d.year (day_of_year d) (within_year d ok) in
    let n : year_start d.year + day_of_year d - year_start d.year ≡ day_of_year d = omega arith in
    rw (split_number d, y, n, date_in_year_of d ok)

-- What is known of the date of a day.
pub record Dated (n : ℕ) (d : CivilDate) : Type 0 where
  pub lawful : LawfulDate d
  pub numbered : day_number d ≡ n

pub dated_in_year : (y n : ℕ) → n < start (month_lengths (leap y)) 12 → Dated (year_start y + n) (date_in_year y n)
unfolding date_in_year
dated_in_year y n h =
    let f = falls (month_lengths (leap y)) n (rw (twelve (leap y)) h) in
    let p = place (month_lengths (leap y)) n in
    let run : p.run + 1 - 1 ≡ p.run = omega arith in
    let long = listed (leap y) (p.run + 1) (omega arith) (omega (arith, twelve (leap y), f.a_run)) in
    let here = ap (λ k. get_or (month_lengths (leap y)) k 0) run in
    record {
      lawful = record { from_january = omega arith; to_december = omega (arith, twelve (leap y), f.a_run); from_first = omega arith; to_last = omega (arith, f.inside, long, here) };
      numbered = rw run (omega (arith, f.counted));
    }

-- the date of a day exists and has that day for its number
pub dated : (n : ℕ) → Dated n (date_of_day n)
dated n =
    let y = year_of_day n in
    let whole : year_start y + (n - year_start y) ≡ n = omega arith in
    rw whole at (dated_in_year y (n - year_start y) (omega (arith, whole_year y)))

-- What is known of the date after d, round a number of years.
pub record Follows (years : ℕ) (d e : CivilDate) : Type 0 where
  pub lawful : LawfulDate e
  pub in_cycle : e.year < years
  pub stepped : day_number e ≡ (day_number d + 1) % year_start years

-- a date of an earlier year has a lower number than any year to come
pub before : (years : ℕ) (d : CivilDate) → LawfulDate d → d.year < years → day_number d < year_start years
before years d ok h = omega (arith, split_number d, within_year d ok, whole_year d.year)

-- a date whose number is one higher, in the same cycle of years, follows
follows_up : (years : ℕ) (d e : CivilDate) → LawfulDate e → e.year < years → day_number e ≡ day_number d + 1 → Follows years d e
follows_up years d e ok h up =
    record { lawful = ok; in_cycle = h; stepped = up ∙ sym (mod-eq_of_lt (rw up at (before years e ok h))) }

-- the first of January exists, and its number is where the year starts
-- the month after this one has a first day
pub first_of_month : (year month : ℕ) → month < 12 → 1 ≤ month_length year (month + 1)
first_of_month year month h = (usual_length year (month + 1) (omega arith) (omega arith)).0

pub january : (year : ℕ) → LawfulDate (date year 1 1)
january year = record { from_january = omega arith; to_december = omega arith; from_first = omega arith; to_last = (usual_length year 1 (omega arith) (omega arith)).0 }

january_number : (year : ℕ) → day_number (date year 1 1) ≡ year_start year
january_number year = omega (arith, start_none (month_lengths (leap year)))

pub follows : (years : ℕ) (d : CivilDate) → LawfulDate d → d.year < years → Follows years d (next_date years d)
follows years d ok h = by_day (ltb d.day (month_length d.year d.month)) refl
  where
    by_year : (b : Bool) → ltb (d.year + 1) years ≡ b → day_number d + 1 ≡ year_start (d.year + 1) → Follows years d (new_year b d.year)
    by_year true e n = follows_up years d (date (d.year + 1) 1 1) (january (d.year + 1)) (ltb-true (d.year + 1) years e) (january_number (d.year + 1) ∙ sym n)
    by_year false e n =
        let all : d.year + 1 ≡ years = omega (arith, ltb-false (d.year + 1) years e) in
        let n' : day_number d + 1 ≡ year_start years = rw all at n in
        record { lawful = january 0; in_cycle = omega arith; stepped = january_number 0 ∙ sym (rw n' (mod_self (year_start years))) }

    by_month : (b : Bool) → ltb d.month 12 ≡ b → d.day ≡ month_length d.year d.month → Follows years d (next_month b years d)
    by_month true e last =
        let next : d.month + 1 - 1 ≡ d.month = omega arith in
        let k : d.month < 12 = ltb-true d.month 12 e in
        follows_up years d (date d.year (d.month + 1) 1)
        (record { from_january = omega arith; to_december = omega arith; from_first = omega arith; to_last = first_of_month d.year d.month k })
        h
        (split_number (date d.year (d.month + 1) 1) ∙ rw next (omega (arith, split_number d, its_month_ends d ok, ok.from_first)))
    by_month false e last =
        let december : d.month ≡ 12 = omega (arith, ltb-false d.month 12 e, ok.to_december) in
        by_year (ltb (d.year + 1) years) refl (omega (arith, split_number d, its_month_ends d ok, whole_year d.year, ap (start (month_lengths (leap d.year))) december, ok.from_first))

    by_day : (b : Bool) → ltb d.day (month_length d.year d.month) ≡ b → Follows years d (next_day b years d)
    by_day true e =
        follows_up years d (date d.year d.month (d.day + 1))
        (record { from_january = ok.from_january; to_december = ok.to_december; from_first = omega arith; to_last = omega (arith, ltb-true d.day (month_length d.year d.month) e) })
        h
        (omega (arith, split_number (date d.year d.month (d.day + 1)), split_number d, ok.from_first))
    by_day false e = by_month (ltb d.month 12) refl (omega (arith, ltb-false d.day (month_length d.year d.month) e, ok.to_last))
