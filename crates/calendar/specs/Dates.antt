-- Dates and day numbers. Years and days count from 0, months and the days of a month from 1.
use Rattle.std.specs.Prelude.{ℕ, ◌+◌, ◌-◌, ◌*◌, ◌/◌, ◌≤◌, Bool, true, false, cond, ◌&&◌, Some, None, Option, nat_le, nat_lt}
use Rattle.calendar.specs.Runs.{Place, place, start}
use Rattle.calendar.specs.Months.{leap, month_lengths, month_length}

-- A year, a month and a day, whether or not there is such a date.
pub record CivilDate : Type 0 where
  pub year : ℕ
  pub month : ℕ
  pub day : ℕ

-- The three together.
abbrev pub date : ℕ → ℕ → ℕ → CivilDate
date year month day = record { year = year; month = month; day = day }

-- A date that exists.
pub record LawfulDate (d : CivilDate) : Type 0 where
  pub from_january : 1 ≤ d.month
  pub to_december : d.month ≤ 12
  pub from_first : 1 ≤ d.day
  pub to_last : d.day ≤ month_length d.year d.month

-- The date of a year, month and day, if there is one.
abbrev pub existing_date : ℕ → ℕ → ℕ → Option CivilDate
existing_date year month day =
    cond (nat_lt 0 month && nat_le month 12 && nat_lt 0 day && nat_le day (month_length year month)) (Some (date year month day)) None

-- The days before a year: 365 for each year before it, and one more for each leap year among them.
abbrev pub year_start : ℕ → ℕ
year_start year = 365 * year + (year + 3) / 4

-- The number of a date, from 0 on 1 January of year 0.
abbrev pub day_number : CivilDate → ℕ
day_number d = year_start d.year + start (month_lengths (leap d.year)) (d.month - 1) + (d.day - 1)

-- The year of a day; four years have 1461 days, the first of them 366.
abbrev pub year_of_day : ℕ → ℕ
year_of_day day = 4 * day / 1461

-- The date at a place among the months of a year.
abbrev pub date_at : ℕ → Place → CivilDate
date_at year p = date year (p.run + 1) (p.past + 1)

-- The date of a day of a year, counted from 0.
unfoldable pub date_in_year : ℕ → ℕ → CivilDate
date_in_year year day = date_at year (place (month_lengths (leap year)) day)

-- The date of a day.
abbrev pub date_of_day : ℕ → CivilDate
date_of_day day = date_in_year (year_of_day day) (day - year_start (year_of_day day))

-- The first of January that follows, round a number of years.
abbrev pub new_year : Bool → ℕ → CivilDate
new_year true year = date (year + 1) 1 1
new_year false year = date 0 1 1

-- The first of the next month; December ends the year.
abbrev pub next_month : Bool → ℕ → CivilDate → CivilDate
next_month true years d = date d.year (d.month + 1) 1
next_month false years d = new_year (nat_lt (d.year + 1) years) d.year

-- The next day of the month, if there is one.
abbrev pub next_day : Bool → ℕ → CivilDate → CivilDate
next_day true years d = date d.year d.month (d.day + 1)
next_day false years d = next_month (nat_lt d.month 12) years d

-- The next date: the next day of the month, else the first of the next month, else the first of January.
abbrev pub next_date : ℕ → CivilDate → CivilDate
next_date years d = next_day (nat_lt d.day (month_length d.year d.month)) years d
