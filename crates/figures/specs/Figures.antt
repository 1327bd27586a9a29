-- Figures established from the definitions of calendar, byte map, core and law.
use Rattle.std.specs.Prelude.{◌≡◌, ℕ, List, [], ◌∷◌, pos, neg_ℤ, Some}
use Rattle.register_map.specs.declared.hour_mode.HourMode.TheVariants.{TwentyFour}
use Rattle.register_map.specs.declared.shown.Shown.{Shown}
use Rattle.register_map.specs.Chart.{Chart, Lawful, MapState, shown_by, second_of, second_after}
use Rattle.calendar.specs.Dates.{date}
use Rattle.calendar.specs.Times.{time}
use Rattle.calendar.specs.Moments.{civil, moment_of}
use Rattle.byte_map.specs.Cells.{byte_chart}
use Rattle.clock_core.specs.Core.{new_core}
use Rattle.clock_core.specs.Seconds.{trim_pulses}
use Rattle.timekeeping.specs.declared.call.CoreCall.{CoreCall}
use Rattle.timekeeping.specs.declared.call.CoreCall.TheVariants.{Pulses, Hold, Release}
use Rattle.timekeeping.specs.CoreCalls.{core_machine}
use Rattle.timekeeping.specs.Law.{calendar}
use Rattle.timekeeping.specs.Logs.{log_of}
use Rattle.timekeeping.specs.Seconds.{WholeSeconds, seconds_past}

-- What trim bytes give in pulses.
pub record TrimFigures : Type 0 where
  pub trim_07 : trim_pulses 0x07 ≡ pos 12
  pub trim_7E : trim_pulses 0x7E ≡ neg_ℤ (pos 4)
  pub trim_3F : trim_pulses 0x3F ≡ pos 124
  pub trim_42 : trim_pulses 0x42 ≡ neg_ℤ (pos 124)
  pub trim_00 : trim_pulses 0x00 ≡ pos 0
  pub trim_01 : trim_pulses 0x01 ≡ pos 0
  pub trim_40 : trim_pulses 0x40 ≡ pos 0
  pub trim_41 : trim_pulses 0x41 ≡ pos 0

-- 1 January 2000 on the byte map, and the end of its cycle.
pub record CalendarFigures : Type 0 where
  pub new_century : moment_of (civil (date 100 1 1) (time 0 0 0)) ≡ 3155760000
  pub its_cells : byte_chart.code TwentyFour (record { moment = 3155760000; weekday = 6 }) ≡ 0x00 ∷ 0x00 ∷ 0x00 ∷ 0x06 ∷ 0x01 ∷ 0x81 ∷ 0x00 ∷ []
  pub cycle_end : (weekday : ℕ) → (second_after byte_chart (record { moment = 6311519999; weekday = weekday })).moment ≡ 0

-- a boundary at seconds value 59 is crossed while held: 65,548 pulses in all
abbrev pub held_over_first : List CoreCall
held_over_first = Pulses 200 ∷ Hold ∷ Pulses 32600 ∷ Release ∷ Pulses 32748 ∷ []

-- Whole seconds with a = 12.
pub record SecondsFigures : Type 0 where
  pub none_at_32779 : WholeSeconds 0x07 0 32779 0
  pub one_at_32780 : WholeSeconds 0x07 0 32780 1
  pub twenty_at_655372 : WholeSeconds 0x07 0 655372 20
  pub from_59_two_at_65548 : WholeSeconds 0x07 59 65548 2
  -- and a core that is held over the first boundary shows it, on every lawful map
  pub held_two_on : (c : Chart) → Lawful c → (m : MapState) (p : Shown) → shown_by c m ≡ Some p → second_of p ≡ 59 → calendar (core_machine c) c (new_core c m 0x07) (log_of (core_machine c) (new_core c m 0x07) held_over_first) ≡ Some (seconds_past c 2 p)

pub record Figures : Type 0 where
  pub trims : TrimFigures
  pub calendars : CalendarFigures
  pub seconds : SecondsFigures
