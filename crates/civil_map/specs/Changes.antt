-- Fields from what their cells spell, and fields with one of them replaced.
use Rattle.std.specs.Prelude.{ℕ, Some, Option}
use Rattle.calendar.specs.Dates.{CivilDate}
use Rattle.calendar.specs.Times.{ClockTime, time}
use Rattle.calendar.specs.Moments.{civil}
use Rattle.calendar.specs.Fields.{Fields, fields}
use Rattle.calendar.specs.Spelling.{then, weekday_in}

-- The fields of a time of day, a date and a weekday cell, if all three are there.
abbrev pub fields_spelt : Option ClockTime → Option CivilDate → ℕ → Option Fields
fields_spelt at_times on_dates weekdays =
    then at_times λ at_time.
    then on_dates λ on.
    then (weekday_in weekdays) λ weekday. Some (fields (civil on at_time) weekday)

abbrev pub with_second : ℕ → Fields → Fields
with_second second f = fields (civil f.civil.on (time f.civil.at_time.hour f.civil.at_time.minute second)) f.weekday

abbrev pub with_minute : ℕ → Fields → Fields
with_minute minute f = fields (civil f.civil.on (time f.civil.at_time.hour minute f.civil.at_time.second)) f.weekday

abbrev pub with_hour : ℕ → Fields → Fields
with_hour hour f = fields (civil f.civil.on (time hour f.civil.at_time.minute f.civil.at_time.second)) f.weekday

abbrev pub with_weekday : ℕ → Fields → Fields
with_weekday weekday f = fields f.civil weekday

abbrev pub with_date : CivilDate → Fields → Fields
with_date on f = fields (civil on f.civil.at_time) f.weekday
