-- The digit map: thirteen cells of four bits, units before tens, which are the seconds, minutes, hours, day, month, year and weekday.
use Rattle.std.specs.Prelude.{ℕ, ◌+◌, cond, List, [], ◌∷◌, length, Some, None, Option, ◌==◌, slice_index, slice_set}
use Rattle.register_map.specs.Chart.{Chart}
use Rattle.register_map.specs.declared.hour_mode.HourMode.{HourMode}
use Rattle.calendar.specs.Moments.{civil}
use Rattle.calendar.specs.declared.digits.Digits.{Digits}
use Rattle.calendar.specs.Digits.{digits, digits_of, hour_digits}
use Rattle.calendar.specs.Spelling.{then, time_spelt, date_spelt, weekday_in}
use Rattle.calendar.specs.Fields.{Fields, fields, chart_of}

-- The used bits of each cell.
abbrev pub used_bits : List ℕ
used_bits = 0xF ∷ 7 ∷ 0xF ∷ 7 ∷ 0xF ∷ 7 ∷ 0xF ∷ 3 ∷ 0xF ∷ 1 ∷ 0xF ∷ 0xF ∷ 7 ∷ []

-- Two digits before the cells that follow.
abbrev pub before : Digits → List ℕ → List ℕ
before d rest = d.units ∷ d.tens ∷ rest

-- The row of cells that the fields are written in; in 12-hour mode the afternoon adds 4 to the tens of the hour.
unfoldable pub row : HourMode → Fields → List ℕ
row mode f =
    before (digits_of f.civil.at_time.second)
    (before (digits_of f.civil.at_time.minute)
    (before (hour_digits mode 4 f.civil.at_time.hour)
    (before (digits_of f.civil.on.day)
    (before (digits_of f.civil.on.month)
    (before (digits_of f.civil.on.year)
    (f.weekday ∷ []))))))

-- The two digits that begin at a cell.
abbrev pub digits_in : List ℕ → ℕ → Digits
digits_in cells cell = digits (slice_index cells (cell + 1)) (slice_index cells cell)

-- The cells with two digits written at a cell.
abbrev pub digits_put : List ℕ → ℕ → Digits → List ℕ
digits_put cells cell d = slice_set (slice_set cells cell d.units) (cell + 1) d.tens

-- The fields that the cells spell, if they do; all years are of one century.
unfoldable pub fields_in : HourMode → List ℕ → Option Fields
fields_in mode cells =
    then (time_spelt mode 4 (digits_in cells 4) (digits_in cells 2) (digits_in cells 0)) λ at_time.
    then (date_spelt 0 (digits_in cells 10) (digits_in cells 8) (digits_in cells 6)) λ on.
    then (weekday_in (slice_index cells 12)) λ weekday. Some (fields (civil on at_time) weekday)

-- A row has thirteen cells.
unfoldable pub row_read : HourMode → List ℕ → Option Fields
row_read mode cells = cond (length cells == 13) (fields_in mode cells) None

-- What the digit map states: thirteen cells, a cycle of one century, its used bits, code and reading.
abbrev pub digit_chart : Chart
digit_chart = chart_of 100 13 used_bits row row_read
