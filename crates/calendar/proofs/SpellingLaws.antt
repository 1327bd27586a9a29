-- Dates and times of day, and the digits that spell them, are each other's inverse.
use Rattle.std.proofs.Common.{◌≡◌, ℕ, ◌+◌, ◌*◌, ◌/◌, ◌%◌, ◌≤◌, ◌&&◌, ltb, leb, Some, None, Option, sym, refl, ap, ◌∙◌, subst, ap₂, arith}
use Rattle.std.proofs.lemmas.Bool.{lt-ltb, le-leb, ltb-true, leb-true, and_parts, and_from}
use Rattle.register_map.specs.declared.hour_mode.HourMode.{HourMode}
use Rattle.calendar.specs.declared.digits.Digits.{Digits}
use Rattle.calendar.specs.Months.{month_length}
use Rattle.calendar.specs.Dates.{CivilDate, date, LawfulDate, existing_date}
use Rattle.calendar.specs.Times.{ClockTime, time, LawfulTime, existing_time}
use Rattle.calendar.specs.Digits.{digits_of, number_of, hour_digits, hour_of}
use Rattle.calendar.specs.Spelling.{then, time_spelt, date_spelt}
use Rattle.calendar.proofs.MonthLaws.{day_at_most}
use Rattle.calendar.proofs.DigitLaws.{passes, number_of_digits, digits_of_number, hour_of_digits, digits_of_hour}

-- what was read, where something was read next
pub first_read : {A B : Type 0} (o : Option A) (next : A → Option B) (y : B) → then o next ≡ Some y → (x : A) × (o ≡ Some x) × (next x ≡ Some y)
first_read None next y e = absurd (grind arith)
first_read (Some x) next y e = (x, refl, e)

pub time_exists : (t : ClockTime) → LawfulTime t → existing_time t.hour t.minute t.second ≡ Some t
time_exists t ok =
    let all = and_from (ltb t.hour 24 && ltb t.minute 60) (ltb t.second 60) (and_from (ltb t.hour 24) (ltb t.minute 60) (lt-ltb t.hour 24 ok.an_hour) (lt-ltb t.minute 60 ok.a_minute)) (lt-ltb t.second 60 ok.a_second) in
    rw all

pub existing_time_is : (h m s : ℕ) (t : ClockTime) → existing_time h m s ≡ Some t → LawfulTime t × (time h m s ≡ t)
existing_time_is h m s t e =
    let p = passes (ltb h 24 && ltb m 60 && ltb s 60) (time h m s) t e in
    let q = and_parts (ltb h 24 && ltb m 60) (ltb s 60) p.0 in
    let r = and_parts (ltb h 24) (ltb m 60) q.0 in
    let ok : LawfulTime (time h m s) = record { an_hour = ltb-true h 24 r.0; a_minute = ltb-true m 60 r.1; a_second = ltb-true s 60 q.1 } in
    (subst LawfulTime p.1 ok, p.1)

-- the digits of a time of day spell it
pub time_spelt_is : (m : HourMode) (mark : ℕ) (t : ClockTime) → 2 ≤ mark → LawfulTime t → time_spelt m mark (hour_digits m mark t.hour) (digits_of t.minute) (digits_of t.second) ≡ Some t
time_spelt_is m mark t k ok =
    rw (
      hour_of_digits m mark t.hour k ok.an_hour,
      number_of_digits t.minute (omega (arith, ok.a_minute)),
      number_of_digits t.second (omega (arith, ok.a_second)),
    )
    (time_exists t ok)

pub time_spelt_as : (m : HourMode) (mark : ℕ) (t : ClockTime) (hours minutes seconds : Digits) → 2 ≤ mark → LawfulTime t → hours ≡ hour_digits m mark t.hour → minutes ≡ digits_of t.minute → seconds ≡ digits_of t.second → time_spelt m mark hours minutes seconds ≡ Some t
time_spelt_as m mark t hours minutes seconds k ok a b c =
    ap (λ x. time_spelt m mark x minutes seconds) a
    ∙ ap₂ (λ x y. time_spelt m mark (hour_digits m mark t.hour) x y) b c
    ∙ time_spelt_is m mark t k ok

-- What is known of digits that spell a time of day.
pub record SpellsTime (m : HourMode) (mark : ℕ) (hours minutes seconds : Digits) (t : ClockTime) : Type 0 where
  pub lawful : LawfulTime t
  pub of_hour : hour_digits m mark t.hour ≡ hours
  pub of_minute : digits_of t.minute ≡ minutes
  pub of_second : digits_of t.second ≡ seconds

pub spells_time : (m : HourMode) (mark : ℕ) (hours minutes seconds : Digits) (t : ClockTime) → 2 ≤ mark → time_spelt m mark hours minutes seconds ≡ Some t → SpellsTime m mark hours minutes seconds t
spells_time m mark hours minutes seconds t k e =
    let h = first_read (hour_of m mark hours) (λ h. then (number_of minutes) λ n. then (number_of seconds) λ s. existing_time h n s) t e in
    let n = first_read (number_of minutes) (λ n. then (number_of seconds) λ s. existing_time h.0 n s) t h.2 in
    let s = first_read (number_of seconds) (λ s. existing_time h.0 n.0 s) t n.2 in
    let x = existing_time_is h.0 n.0 s.0 t s.2 in
    record {
      lawful = x.0;
      of_hour = ap (λ t. hour_digits m mark t.hour) (sym x.1) ∙ (digits_of_hour m mark h.0 hours k h.1).1;
      of_minute = ap (λ t. digits_of t.minute) (sym x.1) ∙ (digits_of_number minutes n.0 n.1).1;
      of_second = ap (λ t. digits_of t.second) (sym x.1) ∙ (digits_of_number seconds s.0 s.1).1;
    }

pub date_exists : (d : CivilDate) → LawfulDate d → existing_date d.year d.month d.day ≡ Some d
date_exists d ok =
    let all = and_from (ltb 0 d.month && leb d.month 12 && ltb 0 d.day) (leb d.day (month_length d.year d.month)) (and_from (ltb 0 d.month && leb d.month 12) (ltb 0 d.day) (and_from (ltb 0 d.month) (leb d.month 12) (lt-ltb 0 d.month ok.from_january) (le-leb d.month 12 ok.to_december)) (lt-ltb 0 d.day ok.from_first)) (le-leb d.day (month_length d.year d.month) ok.to_last) in
    rw all

pub existing_date_is : (y m n : ℕ) (d : CivilDate) → existing_date y m n ≡ Some d → LawfulDate d × (date y m n ≡ d)
existing_date_is y m n d e =
    let p = passes (ltb 0 m && leb m 12 && ltb 0 n && leb n (month_length y m)) (date y m n) d e in
    let q = and_parts (ltb 0 m && leb m 12 && ltb 0 n) (leb n (month_length y m)) p.0 in
    let r = and_parts (ltb 0 m && leb m 12) (ltb 0 n) q.0 in
    let s = and_parts (ltb 0 m) (leb m 12) r.0 in
    let ok : LawfulDate (date y m n) = record { from_january = ltb-true 0 m s.0; to_december = leb-true m 12 s.1; from_first = ltb-true 0 n r.1; to_last = leb-true n (month_length y m) q.1 } in
    (subst LawfulDate p.1 ok, p.1)

-- the century and digits of a date spell it
pub date_spelt_is : (d : CivilDate) → LawfulDate d → date_spelt (d.year / 100) (digits_of (d.year % 100)) (digits_of d.month) (digits_of d.day) ≡ Some d
date_spelt_is d ok =
    let year : 100 * (d.year / 100) + d.year % 100 ≡ d.year = omega arith in
    let day = day_at_most d.year d.month d.day ok.from_january ok.to_december ok.to_last in
    rw (
      number_of_digits (d.year % 100) (omega arith),
      number_of_digits d.month (omega (arith, ok.to_december)),
      number_of_digits d.day (omega arith),
      year,
    )
    (date_exists d ok)

pub date_spelt_as : (d : CivilDate) (century : ℕ) (years months days : Digits) → LawfulDate d → century ≡ d.year / 100 → years ≡ digits_of (d.year % 100) → months ≡ digits_of d.month → days ≡ digits_of d.day → date_spelt century years months days ≡ Some d
date_spelt_as d century years months days ok a b c e =
    ap₂ (λ x y. date_spelt x y months days) a b
    ∙ ap₂ (λ x y. date_spelt (d.year / 100) (digits_of (d.year % 100)) x y) c e
    ∙ date_spelt_is d ok

-- What is known of a century and digits that spell a date.
pub record SpellsDate (century : ℕ) (years months days : Digits) (d : CivilDate) : Type 0 where
  pub lawful : LawfulDate d
  pub of_century : d.year / 100 ≡ century
  pub of_year : digits_of (d.year % 100) ≡ years
  pub of_month : digits_of d.month ≡ months
  pub of_day : digits_of d.day ≡ days

pub spells_date : (century : ℕ) (years months days : Digits) (d : CivilDate) → date_spelt century years months days ≡ Some d → SpellsDate century years months days d
spells_date century years months days d e =
    let y = first_read (number_of years) (λ y. then (number_of months) λ m. then (number_of days) λ n. existing_date (100 * century + y) m n) d e in
    let m = first_read (number_of months) (λ m. then (number_of days) λ n. existing_date (100 * century + y.0) m n) d y.2 in
    let n = first_read (number_of days) (λ n. existing_date (100 * century + y.0) m.0 n) d m.2 in
    let x = existing_date_is (100 * century + y.0) m.0 n.0 d n.2 in
    let is = digits_of_number years y.0 y.1 in
    let small = is.0 in
    let whole : d.year ≡ 100 * century + y.0 = ap (λ d. d.year) (sym x.1) in
    let rest : d.year % 100 ≡ y.0 = omega arith in
    record {
      lawful = x.0;
      of_century = omega arith;
      of_year = ap digits_of rest ∙ is.1;
      of_month = ap (λ d. digits_of d.month) (sym x.1) ∙ (digits_of_number months m.0 m.1).1;
      of_day = ap (λ d. digits_of d.day) (sym x.1) ∙ (digits_of_number days n.0 n.1).1;
    }
