-- Dates and times of day in decimal digits.
use Rattle.std.specs.Prelude.{ℕ, ◌+◌, ◌*◌, cond, Some, None, Option, nat_lt}
use Rattle.register_map.specs.declared.hour_mode.HourMode.{HourMode}
use Rattle.calendar.specs.declared.digits.Digits.{Digits}
use Rattle.calendar.specs.Digits.{number_of, hour_of}
use Rattle.calendar.specs.Dates.{CivilDate, existing_date}
use Rattle.calendar.specs.Times.{ClockTime, existing_time}

-- What is read next from what was read, if anything was.
abbrev pub then : {A B : Type 0} → Option A → (A → Option B) → Option B
then None next = None
then (Some x) next = next x

-- The time of day that digits spell, if there is one.
abbrev pub time_spelt : HourMode → ℕ → Digits → Digits → Digits → Option ClockTime
time_spelt mode mark hours minutes seconds =
    then (hour_of mode mark hours) λ hour.
    then (number_of minutes) λ minute.
    then (number_of seconds) λ second. existing_time hour minute second

-- The date that a century and digits spell, if there is one; the digits of the year are its last two.
abbrev pub date_spelt : ℕ → Digits → Digits → Digits → Option CivilDate
date_spelt century years months days =
    then (number_of years) λ year.
    then (number_of months) λ month.
    then (number_of days) λ day. existing_date (100 * century + year) month day

-- The weekday in its cell, if there is one.
abbrev pub weekday_in : ℕ → Option ℕ
weekday_in cell = cond (nat_lt cell 7) (Some cell) None
