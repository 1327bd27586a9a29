-- Times of day and seconds of the day are each other's inverse, and a second later is the next time.
use Rattle.std.proofs.Common.{◌≡◌, ℕ, ◌+◌, ◌/◌, ◌%◌, ◌<◌, Bool, true, false, ltb, sym, refl, ap, ◌∙◌, subst, arith}
use Rattle.std.proofs.lemmas.Bool.{ltb-true, ltb-false}
use Rattle.calendar.specs.Times.{ClockTime, time, LawfulTime, second_of_day, time_of_second, next_hour, next_minute, next_second, next_time}

pub within_day : (t : ClockTime) → LawfulTime t → second_of_day t < 86400
within_day t ok = omega arith

pub time_of_its_second : (t : ClockTime) → LawfulTime t → time_of_second (second_of_day t) ≡ t
time_of_its_second t ok =
    let h : second_of_day t / 3600 ≡ t.hour = omega arith in
    let m : second_of_day t / 60 % 60 ≡ t.minute = omega arith in
    let s : second_of_day t % 60 ≡ t.second = omega arith in
    rw (h, m, s)

pub second_of_its_time : (n : ℕ) → second_of_day (time_of_second n) ≡ n
second_of_its_time n = omega arith

pub timed : (n : ℕ) → n < 86400 → LawfulTime (time_of_second n)
timed n h = omega arith

-- What is known of the time a second after t.
pub record Ticks (t u : ClockTime) : Type 0 where
  pub lawful : LawfulTime u
  pub stepped : second_of_day u ≡ (second_of_day t + 1) % 86400

pub ticks : (t : ClockTime) → LawfulTime t → Ticks t (next_time t)
ticks t ok = by_second (ltb t.second 59) refl
  where
    by_hour : (b : Bool) → ltb t.hour 23 ≡ b → t.minute ≡ 59 → t.second ≡ 59 → Ticks t (next_hour b t)
    by_hour true e m s = let k = ltb-true t.hour 23 e in omega arith
    by_hour false e m s = let k = ltb-false t.hour 23 e in omega arith

    by_minute : (b : Bool) → ltb t.minute 59 ≡ b → t.second ≡ 59 → Ticks t (next_minute b t)
    by_minute true e s = let k = ltb-true t.minute 59 e in omega arith
    by_minute false e s = let k = ltb-false t.minute 59 e in by_hour (ltb t.hour 23) refl (omega arith) s

    by_second : (b : Bool) → ltb t.second 59 ≡ b → Ticks t (next_second b t)
    by_second true e = let k = ltb-true t.second 59 e in omega arith
    by_second false e = let k = ltb-false t.second 59 e in by_minute (ltb t.minute 59) refl (omega arith)

-- what a second later keeps, by what it shows then
pub keeps_minute : (t : ClockTime) → ((next_time t).second ≡ 0 → ⊥) → next_time t ≡ time t.hour t.minute (next_time t).second
keeps_minute t h = by_second (ltb t.second 59) h
  where
    by_hour : (b : Bool) → ((next_hour b t).second ≡ 0 → ⊥) → next_hour b t ≡ time t.hour t.minute (next_hour b t).second
    by_hour true h = absurd (h refl)
    by_hour false h = absurd (h refl)

    by_minute : (b : Bool) → ((next_minute b t).second ≡ 0 → ⊥) → next_minute b t ≡ time t.hour t.minute (next_minute b t).second
    by_minute true h = absurd (h refl)
    by_minute false h = by_hour (ltb t.hour 23) h

    by_second : (b : Bool) → ((next_second b t).second ≡ 0 → ⊥) → next_second b t ≡ time t.hour t.minute (next_second b t).second
    by_second true h = refl
    by_second false h = by_minute (ltb t.minute 59) h

pub keeps_hour : (t : ClockTime) → (next_time t).second ≡ 0 → ((next_time t).minute ≡ 0 → ⊥) → next_time t ≡ time t.hour (next_time t).minute (next_time t).second
keeps_hour t z h = by_second (ltb t.second 59) z h
  where
    by_hour : (b : Bool) → ((next_hour b t).minute ≡ 0 → ⊥) → next_hour b t ≡ time t.hour (next_hour b t).minute (next_hour b t).second
    by_hour true h = absurd (h refl)
    by_hour false h = absurd (h refl)

    by_minute : (b : Bool) → ((next_minute b t).minute ≡ 0 → ⊥) → next_minute b t ≡ time t.hour (next_minute b t).minute (next_minute b t).second
    by_minute true h = refl
    by_minute false h = by_hour (ltb t.hour 23) h

    by_second : (b : Bool) → (next_second b t).second ≡ 0 → ((next_second b t).minute ≡ 0 → ⊥) → next_second b t ≡ time t.hour (next_second b t).minute (next_second b t).second
    by_second true z h = absurd (omega arith)
    by_second false z h = by_minute (ltb t.minute 59) h

-- the same of a time that is known to be the next
pub kept_minute : (t u : ClockTime) → u ≡ next_time t → (u.second ≡ 0 → ⊥) → u ≡ time t.hour t.minute u.second
kept_minute t u e h =
    subst (λ (v : ClockTime). v ≡ time t.hour t.minute v.second) (sym e) (keeps_minute t (λ z. h (ap (λ v. v.second) e ∙ z)))

pub kept_hour : (t u : ClockTime) → u ≡ next_time t → u.second ≡ 0 → (u.minute ≡ 0 → ⊥) → u ≡ time t.hour u.minute u.second
kept_hour t u e z h =
    subst (λ (v : ClockTime). v ≡ time t.hour v.minute v.second) (sym e)
    (keeps_hour t (ap (λ v. v.second) (sym e) ∙ z) (λ y. h (ap (λ v. v.minute) e ∙ y)))
