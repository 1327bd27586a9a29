-- The laws of the calendar: what the definitions of dates, times and moments have to keep.
use Rattle.std.specs.Prelude.{◌≡◌, ℕ, ◌+◌, ◌%◌, ◌<◌}
use Rattle.calendar.specs.Runs.{start}
use Rattle.calendar.specs.Months.{leap, month_lengths}
use Rattle.calendar.specs.Dates.{CivilDate, LawfulDate, year_start, day_number, date_of_day, next_date}
use Rattle.calendar.specs.Moments.{Civil, LawfulCivil, moment_of, civil_of, cycle_of, next_civil}

-- All of them.
pub record CalendarLaws : Type 0 where
  -- a year starts where the twelve months of the year before it end
  pub years_join : (year : ℕ) → year_start year + start (month_lengths (leap year)) 12 ≡ year_start (year + 1)
  -- dates and day numbers are each other's inverse
  pub day_has_a_date : (day : ℕ) → LawfulDate (date_of_day day)
  pub number_of_its_date : (day : ℕ) → day_number (date_of_day day) ≡ day
  pub date_of_its_number : (d : CivilDate) → LawfulDate d → date_of_day (day_number d) ≡ d
  -- the date of the next day is the next date, round a number of years
  pub next_date_next_day : (years : ℕ) (d : CivilDate) → LawfulDate d → d.year < years → day_number (next_date years d) ≡ (day_number d + 1) % year_start years
  -- dates with times of day and moments are each other's inverse
  pub moment_has_fields : (moment : ℕ) → LawfulCivil (civil_of moment)
  pub moment_of_its_fields : (moment : ℕ) → moment_of (civil_of moment) ≡ moment
  pub fields_of_its_moment : (f : Civil) → LawfulCivil f → civil_of (moment_of f) ≡ f
  -- one second later is the next moment, round the cycle
  pub next_fields_next_moment : (years : ℕ) (f : Civil) → LawfulCivil f → f.on.year < years → moment_of (next_civil years f) ≡ (moment_of f + 1) % cycle_of years
