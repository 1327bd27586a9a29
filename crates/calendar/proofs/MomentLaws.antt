-- Moments and civil fields are each other's inverse, and a second later is the next moment of the cycle.
use Rattle.std.proofs.Common.{◌≡◌, ℕ, ◌+◌, ◌*◌, ◌/◌, ◌%◌, ◌<◌, Bool, true, false, eqb, sym, refl, ◌∙◌, ⊎_elim, mod-eq_of_lt, arith}
use native.Mathlib.Nat.{mod_self}
use Rattle.std.proofs.lemmas.Bool.{eqb-true, eqb-false, cases_lt}
use Rattle.calendar.specs.Dates.{year_start, day_number, date_in_year}
use Rattle.calendar.specs.Times.{second_of_day, next_time}
use Rattle.calendar.specs.Moments.{Civil, civil, LawfulCivil, moment_of, civil_of, cycle_of, day_after, next_civil}
use Rattle.calendar.proofs.DateLaws.{date_of_number, dated, before, follows}
use Rattle.calendar.proofs.TimeLaws.{within_day, time_of_its_second, second_of_its_time, timed, Ticks, ticks}

-- the fields of the moment of lawful fields
pub civil_of_moment : (f : Civil) → LawfulCivil f → civil_of (moment_of f) ≡ f
civil_of_moment f ok =
    let n = day_number f.on in
    let s = second_of_day f.at_time in
    let h = within_day f.at_time ok.a_time in
    let day : (86400 * n + s) / 86400 ≡ n = omega arith in
    let second : (86400 * n + s) % 86400 ≡ s = omega arith in
    rw (day, second, date_of_number f.on ok.a_date, time_of_its_second f.at_time ok.a_time)

-- the moment of the fields of a moment
pub moment_of_civil : (n : ℕ) → moment_of (civil_of n) ≡ n
moment_of_civil n = omega (arith, (dated (n / 86400)).numbered, second_of_its_time (n % 86400))

pub lawful_civil : (n : ℕ) → LawfulCivil (civil_of n)
lawful_civil n = record { a_date = (dated (n / 86400)).lawful; a_time = timed (n % 86400) (omega arith) }

-- a moment of the cycle lies in one of its years
pub year_in_cycle : (years n : ℕ) → n < cycle_of years → (civil_of n).on.year < years
unfolding date_in_year
year_in_cycle years n h = omega arith

pub moment_in_cycle : (years : ℕ) (f : Civil) → LawfulCivil f → f.on.year < years → moment_of f < cycle_of years
moment_in_cycle years f ok h = omega (arith, before years f.on ok.a_date h, within_day f.at_time ok.a_time)

-- What is known of the fields a second after f, round a number of years.
pub record Advances (years : ℕ) (f g : Civil) : Type 0 where
  pub lawful : LawfulCivil g
  pub in_cycle : g.on.year < years
  pub stepped : moment_of g ≡ (moment_of f + 1) % cycle_of years

-- whole days go round whole days
whole_days : (n days : ℕ) → n < days → 86400 * (n + 1) % (86400 * days) ≡ 86400 * ((n + 1) % days)
whole_days n days h =
    ⊎_elim
    (λ lt. let lt' : 86400 * (n + 1) < 86400 * days = omega arith in rw (mod-eq_of_lt {n = 86400 * (n + 1)} {m = 86400 * days} lt', mod-eq_of_lt {n = n + 1} {m = days} lt))
    (λ ge. let e : n + 1 ≡ days = omega arith in rw (e, mod_self (86400 * days), mod_self days))
    (cases_lt (n + 1) days)

pub advances : (years : ℕ) (f : Civil) → LawfulCivil f → f.on.year < years → Advances years f (next_civil years f)
advances years f ok h = by_midnight (eqb (second_of_day (next_time f.at_time)) 0) refl
  where
    t : Ticks f.at_time (next_time f.at_time)
    t = ticks f.at_time ok.a_time

    by_midnight : (b : Bool) → eqb (second_of_day (next_time f.at_time)) 0 ≡ b → Advances years f (civil (day_after b years f.on) (next_time f.at_time))
    by_midnight true e =
        let zero = eqb-true (second_of_day (next_time f.at_time)) 0 e in
        let d = follows years f.on ok.a_date h in
        let whole : moment_of f + 1 ≡ 86400 * (day_number f.on + 1) = omega (arith, t.stepped, zero, within_day f.at_time ok.a_time) in
        record {
          lawful = record { a_date = d.lawful; a_time = t.lawful };
          in_cycle = d.in_cycle;
          stepped =
              rw whole (sym (whole_days (day_number f.on) (year_start years) (before years f.on ok.a_date h) ∙ omega (arith, d.stepped, zero)));
        }
    by_midnight false e =
        let late = eqb-false (second_of_day (next_time f.at_time)) 0 e in
        let g = civil f.on (next_time f.at_time) in
        let lawful : LawfulCivil g = record { a_date = ok.a_date; a_time = t.lawful } in
        let up : moment_of g ≡ moment_of f + 1 = omega (arith, t.stepped, late, within_day f.at_time ok.a_time) in
        record { lawful = lawful; in_cycle = h; stepped = up ∙ sym (mod-eq_of_lt (rw up at (moment_in_cycle years g lawful h))) }
