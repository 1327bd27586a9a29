-- The code's dates, times of day and readings, as the definitions speak of them.
use Rattle.calendar.specs.Dates.{CivilDate, date}
use Rattle.calendar.specs.Times.{ClockTime, time}
use Rattle.calendar.specs.Moments.{civil}
use Rattle.calendar.specs.Fields.{Fields, fields}
use Rattle.calendar.specs.declared.date.Date.{Date}
use Rattle.calendar.specs.declared.time_of_day.TimeOfDay.{TimeOfDay}
use Rattle.calendar.specs.declared.reading.Reading.{Reading}

-- A date of the code.
abbrev pub date_of : Date → CivilDate
date_of d = date d.year d.month d.day

-- A time of day of the code.
abbrev pub time_of : TimeOfDay → ClockTime
time_of t = time t.hour t.minute t.second

-- What the code has read from cells.
abbrev pub fields_read : Reading → Fields
fields_read r = fields (civil (date_of r.date) (time_of r.time)) r.weekday
