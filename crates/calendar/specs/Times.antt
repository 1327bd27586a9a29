-- The time of day, and its second counted from midnight.
use Rattle.std.specs.Prelude.{ℕ, ◌+◌, ◌*◌, ◌/◌, ◌%◌, ◌<◌, Bool, true, false, cond, ◌&&◌, Some, None, Option, nat_lt}

-- An hour, a minute and a second, whether or not there is such a time of day.
pub record ClockTime : Type 0 where
  pub hour : ℕ
  pub minute : ℕ
  pub second : ℕ

-- The three together.
abbrev pub time : ℕ → ℕ → ℕ → ClockTime
time hour minute second = record { hour = hour; minute = minute; second = second }

-- A time of day that exists.
pub record LawfulTime (t : ClockTime) : Type 0 where
  pub an_hour : t.hour < 24
  pub a_minute : t.minute < 60
  pub a_second : t.second < 60

-- The time of an hour, minute and second, if there is one.
abbrev pub existing_time : ℕ → ℕ → ℕ → Option ClockTime
existing_time hour minute second =
    cond (nat_lt hour 24 && nat_lt minute 60 && nat_lt second 60) (Some (time hour minute second)) None

-- The seconds since midnight.
abbrev pub second_of_day : ClockTime → ℕ
second_of_day t = 3600 * t.hour + 60 * t.minute + t.second

-- The time at a second of the day.
abbrev pub time_of_second : ℕ → ClockTime
time_of_second second = time (second / 3600) (second / 60 % 60) (second % 60)

-- The next hour of the day, else midnight.
abbrev pub next_hour : Bool → ClockTime → ClockTime
next_hour true t = time (t.hour + 1) 0 0
next_hour false t = time 0 0 0

-- The next minute of the hour, if there is one.
abbrev pub next_minute : Bool → ClockTime → ClockTime
next_minute true t = time t.hour (t.minute + 1) 0
next_minute false t = next_hour (nat_lt t.hour 23) t

-- The next second of the minute, if there is one.
abbrev pub next_second : Bool → ClockTime → ClockTime
next_second true t = time t.hour t.minute (t.second + 1)
next_second false t = next_minute (nat_lt t.minute 59) t

-- The time one second later; midnight follows 23:59:59.
abbrev pub next_time : ClockTime → ClockTime
next_time t = next_second (nat_lt t.second 59) t
