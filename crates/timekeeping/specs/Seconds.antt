-- Whole seconds in pulses, and how far the two drift apart.
use Rattle.std.specs.Prelude.{ℕ, zero, suc, ◌+◌, ◌*◌, ◌%◌, ◌<◌, ◌≤◌, cond, ℤ, pos, ◌+ℤ◌, ◌-ℤ◌, ◌*ℤ◌, ◌==◌}
use Rattle.register_map.specs.declared.shown.Shown.{Shown}
use Rattle.register_map.specs.Chart.{Chart, second_after}
use Rattle.clock_core.specs.Seconds.{trim_pulses, trimmed_length}

-- how long the i-th second after the start is, the start being at a seconds value: one in twenty is trimmed
abbrev pub length_of_second : ℕ → ℕ → ℕ → ℕ
length_of_second trim value i = cond ((value + i) % 20 == 0) (trimmed_length trim) 32768

-- the pulses of the first n seconds
unfoldable pub first_seconds : ℕ → ℕ → ℕ → ℕ
first_seconds trim value zero = 0
first_seconds trim value (suc n) = first_seconds trim value n + length_of_second trim value n

-- n whole seconds are in so many pulses: n of them fit, and one more does not
pub record WholeSeconds (trim value pulses n : ℕ) : Type 0 where
  pub fit : first_seconds trim value n ≤ pulses
  pub no_more : pulses < first_seconds trim value (suc n)

-- n seconds past a moment and weekday, round the cycle
unfoldable pub seconds_past : Chart → ℕ → Shown → Shown
seconds_past c zero p = p
seconds_past c (suc n) p = second_after c (seconds_past c n p)

-- how far pulses and seconds are apart, in twentieths of a pulse: twenty seconds have 655,360 pulses and those of the trim
abbrev pub drift : ℕ → ℕ → ℕ → ℤ
drift trim pulses n = pos (20 * pulses) -ℤ pos n *ℤ (pos 655360 +ℤ trim_pulses trim)
