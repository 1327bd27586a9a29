-- Hour modes by number and by bit.
use Rattle.std.specs.Prelude.{ℕ, Bool, cond, Ok, Err, Result, ◌==◌}
use Rattle.register_map.specs.declared.hour_mode.HourMode.{HourMode}
use Rattle.register_map.specs.declared.hour_mode.HourMode.TheVariants.{Twelve, TwentyFour}
use Rattle.register_map.specs.declared.hour_mode.NoSuchMode.{NoSuchMode}

-- 0 for 12 hours, 1 for 24; no other number is a mode
abbrev pub mode_numbered : ℕ → Result HourMode NoSuchMode
mode_numbered number = cond (number == 0) (Ok Twelve) (cond (number == 1) (Ok TwentyFour) (Err (record {})))

-- a bit that is set for 24 hours
abbrev pub mode_if : Bool → HourMode
mode_if set = cond set TwentyFour Twelve

abbrev pub mode_bit : ℕ → HourMode → ℕ
mode_bit mask Twelve = 0
mode_bit mask TwentyFour = mask
