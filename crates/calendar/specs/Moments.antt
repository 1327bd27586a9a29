-- Moments: the seconds since the cycle began, at midnight before 1 January of year 0.
use Rattle.std.specs.Prelude.{ℕ, ◌+◌, ◌*◌, ◌/◌, ◌%◌, Bool, true, false, ◌==◌}
use Rattle.calendar.specs.Dates.{CivilDate, LawfulDate, day_number, date_of_day, next_date, year_start}
use Rattle.calendar.specs.Times.{ClockTime, LawfulTime, second_of_day, time_of_second, next_time}

-- A date with a time of day.
pub record Civil : Type 0 where
  pub on : CivilDate
  pub at_time : ClockTime

-- The two together.
abbrev pub civil : CivilDate → ClockTime → Civil
civil on at_time = record { on = on; at_time = at_time }

-- A date and time that exist.
pub record LawfulCivil (f : Civil) : Type 0 where
  pub a_date : LawfulDate f.on
  pub a_time : LawfulTime f.at_time

-- The moment of a date and time.
abbrev pub moment_of : Civil → ℕ
moment_of f = 86400 * day_number f.on + second_of_day f.at_time

-- The date and time at a moment.
abbrev pub civil_of : ℕ → Civil
civil_of moment = civil (date_of_day (moment / 86400)) (time_of_second (moment % 86400))

-- The seconds of a number of years.
abbrev pub cycle_of : ℕ → ℕ
cycle_of years = 86400 * year_start years

-- The date is the next one where the time of day came round to midnight.
abbrev pub day_after : Bool → ℕ → CivilDate → CivilDate
day_after true years d = next_date years d
day_after false years d = d

-- One second later, round a number of years.
abbrev pub next_civil : ℕ → Civil → Civil
next_civil years f =
    civil (day_after (second_of_day (next_time f.at_time) == 0) years f.on) (next_time f.at_time)
