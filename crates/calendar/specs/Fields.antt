-- What the cells of a calendar spell: a date, a time of day and a weekday. A map that writes and reads these has a chart.
use Rattle.std.specs.Prelude.{◌≡◌, ℕ, ◌<◌, ◌≤◌, cond, List, length, Some, Option, ◌==◌, bit_and, slice_index}
use Rattle.std.specs.Option.{option_map}
use Rattle.register_map.specs.Chart.{Chart, weekday_after}
use Rattle.register_map.specs.declared.shown.Shown.{Shown}
use Rattle.register_map.specs.declared.hour_mode.HourMode.{HourMode}
use Rattle.calendar.specs.Times.{second_of_day, next_time}
use Rattle.calendar.specs.Moments.{Civil, LawfulCivil, moment_of, civil_of, cycle_of, next_civil}

-- A date and time with a weekday.
pub record Fields : Type 0 where
  pub civil : Civil
  pub weekday : ℕ

-- The two together.
abbrev pub fields : Civil → ℕ → Fields
fields civil weekday = record { civil = civil; weekday = weekday }

-- Fields that exist, within a number of years.
pub record LawfulFields (years : ℕ) (f : Fields) : Type 0 where
  pub a_civil : LawfulCivil f.civil
  pub in_years : f.civil.on.year < years
  pub in_week : f.weekday < 7

-- The moment and weekday that fields show.
abbrev pub shown_of : Fields → Shown
shown_of f = record { moment = moment_of f.civil; weekday = f.weekday }

-- The fields of a moment and weekday.
abbrev pub fields_of : Shown → Fields
fields_of p = fields (civil_of p.moment) p.weekday

-- One second later, round a number of years; the weekday steps where the time comes round to midnight.
abbrev pub next_fields : ℕ → Fields → Fields
next_fields years f =
    fields (next_civil years f.civil)
    (cond (second_of_day (next_time f.civil.at_time) == 0) (weekday_after f.weekday) f.weekday)

-- The chart of a map over a number of years, by how it writes fields into cells and reads them back.
abbrev pub chart_of : ℕ → ℕ → List ℕ → (HourMode → Fields → List ℕ) → (HourMode → List ℕ → Option Fields) → Chart
chart_of years count used written read =
    record {
      count = count;
      cycle = cycle_of years;
      used = used;
      code = λ mode p. written mode (fields_of p);
      reads = λ mode cells. option_map shown_of (read mode cells);
    }

-- What such a map has to keep for its chart to be lawful.
pub record Spells (years count : ℕ) (used : List ℕ) (written : HourMode → Fields → List ℕ) (read : HourMode → List ℕ → Option Fields) : Type 0 where
  pub some_years : 1 ≤ years
  pub few_years : years ≤ 256
  pub few_cells : count ≤ 16
  pub a_mask_each : length used ≡ count
  pub masks_are_bytes : (k : ℕ) → slice_index used k < 256
  pub written_length : (m : HourMode) (f : Fields) → length (written m f) ≡ count
  pub written_masked : (m : HourMode) (f : Fields) → LawfulFields years f → (k : ℕ) → bit_and (slice_index (written m f) k) (slice_index used k) ≡ slice_index (written m f) k
  pub written_reads : (m : HourMode) (f : Fields) → LawfulFields years f → read m (written m f) ≡ Some f
  pub read_is_written : (m : HourMode) (cells : List ℕ) (f : Fields) → read m cells ≡ Some f → (written m f ≡ cells) × LawfulFields years f
