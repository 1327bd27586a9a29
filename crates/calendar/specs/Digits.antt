-- Numbers and hours in decimal digits.
use Rattle.std.specs.Prelude.{ℕ, ◌+◌, ◌-◌, ◌*◌, ◌/◌, ◌%◌, cond, ◌&&◌, Some, None, Option, nat_le, nat_lt}
use Rattle.register_map.specs.declared.hour_mode.HourMode.{HourMode}
use Rattle.register_map.specs.declared.hour_mode.HourMode.TheVariants.{Twelve, TwentyFour}
use Rattle.calendar.specs.declared.digits.Digits.{Digits}

-- Two digits together.
abbrev pub digits : ℕ → ℕ → Digits
digits tens units = record { tens = tens; units = units }

-- The digits of a number.
abbrev pub digits_of : ℕ → Digits
digits_of number = digits (number / 10) (number % 10)

-- The number that two digits spell, if both are below ten.
abbrev pub number_of : Digits → Option ℕ
number_of d = cond (nat_lt d.tens 10 && nat_lt d.units 10) (Some (10 * d.tens + d.units)) None

-- Two digits in one cell: the tens in its high four bits.
abbrev pub packed : Digits → ℕ
packed d = 16 * d.tens + d.units

-- The two digits of a cell.
abbrev pub unpacked : ℕ → Digits
unpacked cell = digits (cell / 16) (cell % 16)

-- An hour as a clock face has it: 12, then 1 to 11.
abbrev pub face : ℕ → ℕ
face hour = (hour + 11) % 12 + 1

-- The digits of an hour; in 12-hour mode the afternoon adds a mark to the tens.
abbrev pub hour_digits : HourMode → ℕ → ℕ → Digits
hour_digits Twelve mark hour = digits (face hour / 10 + cond (nat_lt hour 12) 0 mark) (face hour % 10)
hour_digits TwentyFour mark hour = digits_of hour

-- The hour of a half day that begins at a given hour, if its digits spell 1 to 12.
abbrev pub half_day : ℕ → ℕ → ℕ → Option ℕ
half_day begin tens units =
    cond (nat_lt units 10 && nat_lt 0 (10 * tens + units) && nat_le (10 * tens + units) 12) (Some (begin + (10 * tens + units) % 12)) None

-- The hour that digits spell, if they are those of an hour.
abbrev pub hour_of : HourMode → ℕ → Digits → Option ℕ
hour_of Twelve mark d = cond (nat_lt d.tens mark) (half_day 0 d.tens d.units) (half_day 12 (d.tens - mark) d.units)
hour_of TwentyFour mark d = cond (nat_lt d.units 10 && nat_lt (10 * d.tens + d.units) 24) (Some (10 * d.tens + d.units)) None
