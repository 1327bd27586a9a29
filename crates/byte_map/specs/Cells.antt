-- The byte map: seven packed decimal cells, which are the seconds, minutes, hours, weekday, day, month and year.
use Rattle.std.specs.Prelude.{ℕ, ◌+◌, ◌*◌, ◌/◌, ◌%◌, cond, List, [], ◌∷◌, length, Some, None, Option, ◌==◌, nat_lt, slice_index}
use Rattle.register_map.specs.Chart.{Chart}
use Rattle.register_map.specs.declared.hour_mode.HourMode.{HourMode}
use Rattle.calendar.specs.Dates.{CivilDate}
use Rattle.calendar.specs.Times.{ClockTime}
use Rattle.calendar.specs.Moments.{civil}
use Rattle.calendar.specs.Digits.{digits_of, packed, unpacked, hour_digits}
use Rattle.calendar.specs.Spelling.{then, time_spelt, date_spelt, weekday_in}
use Rattle.calendar.specs.Fields.{Fields, fields, chart_of}

-- The used bits of each cell.
abbrev pub used_bits : List ℕ
used_bits = 0x7F ∷ 0x7F ∷ 0x3F ∷ 0x07 ∷ 0x3F ∷ 0x9F ∷ 0xFF ∷ []

-- The cell of a number below 100.
abbrev pub number_cell : ℕ → ℕ
number_cell n = packed (digits_of n)

-- The hours cell; in 12-hour mode the afternoon adds 20h, which is 2 to the tens.
abbrev pub hour_cell : HourMode → ℕ → ℕ
hour_cell mode hour = packed (hour_digits mode 2 hour)

-- The month cell has the century in bit 7: 0 for years 0 to 99, 1 for years 100 to 199.
abbrev pub month_cell : ℕ → ℕ → ℕ
month_cell year month = 128 * (year / 100) + number_cell month

-- The row of cells that the fields are written in.
unfoldable pub row : HourMode → Fields → List ℕ
row mode f =
    number_cell f.civil.at_time.second ∷
    number_cell f.civil.at_time.minute ∷
    hour_cell mode f.civil.at_time.hour ∷
    f.weekday ∷
    number_cell f.civil.on.day ∷
    month_cell f.civil.on.year f.civil.on.month ∷
    number_cell (f.civil.on.year % 100) ∷
    []

-- The date in the day, month and year cells, if they spell one.
abbrev pub date_in : ℕ → ℕ → ℕ → Option CivilDate
date_in days months years =
    cond (nat_lt (months / 128) 2) (date_spelt (months / 128) (unpacked years) (unpacked (months % 128)) (unpacked days)) None

-- The time of day in the hours, minutes and seconds cells, if they spell one.
abbrev pub time_in : HourMode → ℕ → ℕ → ℕ → Option ClockTime
time_in mode hours minutes seconds = time_spelt mode 2 (unpacked hours) (unpacked minutes) (unpacked seconds)

-- The fields that the cells spell, if they do.
unfoldable pub fields_in : HourMode → List ℕ → Option Fields
fields_in mode cells =
    then (time_in mode (slice_index cells 2) (slice_index cells 1) (slice_index cells 0)) λ at_time.
    then (date_in (slice_index cells 4) (slice_index cells 5) (slice_index cells 6)) λ on.
    then (weekday_in (slice_index cells 3)) λ weekday. Some (fields (civil on at_time) weekday)

-- A row has seven cells.
unfoldable pub row_read : HourMode → List ℕ → Option Fields
row_read mode cells = cond (length cells == 7) (fields_in mode cells) None

-- What the byte map states: seven cells, a cycle of two centuries, its used bits, code and reading.
abbrev pub byte_chart : Chart
byte_chart = chart_of 200 7 used_bits row row_read
