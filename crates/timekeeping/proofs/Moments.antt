-- Moments and their seconds values, some seconds on.
use Rattle.std.proofs.Common.{◌≡◌, ℕ, zero, suc, ◌+◌, ◌%◌, ◌<◌, Bool, true, false, cond, eqb, Some, ap, mod-lt, arith}
use Rattle.register_map.specs.declared.shown.Shown.{Shown}
use Rattle.register_map.specs.Chart.{Chart, Showable, Lawful, second_of, second_after, weekday_after}
use Rattle.clock_core.specs.Seconds.{second_pulses, trimmed_length}
use Rattle.clock_core.proofs.Values.{value_after}
use Rattle.timekeeping.specs.Seconds.{seconds_past, length_of_second}

module _ (c : Chart) (law : Lawful c) where
  weekday_stays : (w : ℕ) (b : Bool) → w < 7 → cond b (weekday_after w) w < 7
  weekday_stays w true h = omega arith
  weekday_stays w false h = h

  -- the second after what can be shown can be shown
  pub showable_after : (p : Shown) → Showable c p → Showable c (second_after c p)
  showable_after p ok =
      record {
        in_cycle = mod-lt (p.moment + 1) law.not_empty;
        in_week = weekday_stays p.weekday (eqb ((p.moment + 1) % 86400) 0) ok.in_week;
      }

  pub showable_past : (n : ℕ) (p : Shown) → Showable c p → Showable c (seconds_past c n p)
  unfolding seconds_past
  showable_past zero p ok = ok
  showable_past (suc n) p ok = showable_after (seconds_past c n p) (showable_past n p ok)

  -- the seconds value some seconds on, as far as the trim asks
  pub value_past : (n : ℕ) (p : Shown) → second_of (seconds_past c n p) % 20 ≡ (second_of p + n) % 20
  unfolding seconds_past
  value_past zero p = omega arith
  value_past (suc n) p =
      let one = value_after c law (seconds_past c n p) in
      let earlier = value_past n p in
      omega arith

  -- the length of a second that begins there
  pub length_past : (trim n : ℕ) (p : Shown) → second_pulses trim (Some (second_of (seconds_past c n p))) ≡ length_of_second trim (second_of p) n
  length_past trim n p = ap (λ (m : ℕ). cond (eqb m 0) (trimmed_length trim) 32768) (value_past n p)
