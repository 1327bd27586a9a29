-- When an alarm rings: exactly when its minute comes up on one of its days.
use Rattle.std.specs.Prelude.{◌≡◌, ℕ, suc, ◌<◌, true, false, Some, slice_index}
use Rattle.register_map.specs.declared.shown.Shown.{Shown}
use Rattle.register_map.specs.Chart.{shown_by, second_of, second_after}
use Rattle.byte_map.specs.Cells.{byte_chart}
use Rattle.clock_core.specs.Core.{CoreState, many_pulses}
use Rattle.rx5c_registers.specs.declared.alarm.AlarmRow.{AlarmRow}
use Rattle.rx5c_registers.specs.Alarms.{comes_up, with_flag}
use Rattle.rx5c_registers.specs.File.{FileState, alarm}

-- The calendar has stepped on by one second, to seconds 00.
pub record MinuteBegins (before after : CoreState) : Type 0 where
  pub from : Shown
  pub showed : shown_by byte_chart before.map ≡ Some from
  pub shows : shown_by byte_chart after.map ≡ Some (second_after byte_chart from)
  pub on_minute : second_of (second_after byte_chart from) ≡ 0

-- A minute has begun that is an enabled row's own: its minute and hour stand in cells 1 and 2, and the weekday is one of its days.
pub record ItsMinuteBegins (row : AlarmRow) (before after : CoreState) : Type 0 where
  pub enabled : row.enabled ≡ true
  pub begins : MinuteBegins before after
  pub its_own : comes_up row (slice_index after.map.cells 1) (slice_index after.map.cells 2) (slice_index after.map.cells 3) ≡ true

-- one of n pulses that follow a state begins a minute that is the row's own
pub record RingsWithin (row : AlarmRow) (n : ℕ) (core : CoreState) : Type 0 where
  pub pulse : ℕ
  pub soon : pulse < n
  pub rings : ItsMinuteBegins row (many_pulses byte_chart pulse core) (many_pulses byte_chart (suc pulse) core)

-- A row over n pulses: its flag comes up exactly if one of them begins its minute; nothing else of it changes.
pub record RowRings (n : ℕ) (core : CoreState) (before after : AlarmRow) : Type 0 where
  pub rings : RingsWithin before n core → after.flag ≡ true
  pub only_then : before.flag ≡ false → after.flag ≡ true → RingsWithin before n core
  pub stays_up : before.flag ≡ true → after.flag ≡ true
  pub settings_stay : with_flag after false ≡ with_flag before false

-- Both rows over n pulses.
pub record AlarmsRing (n : ℕ) (before after : FileState) : Type 0 where
  pub weekly : RowRings n before.core (alarm before 0) (alarm after 0)
  pub daily : RowRings n before.core (alarm before 1) (alarm after 1)

-- A row at a release: its flag comes up exactly if the boundary that waited begins its minute.
pub record RowRingsAtRelease (core released : CoreState) (before after : AlarmRow) : Type 0 where
  pub rings : ItsMinuteBegins before core released → after.flag ≡ true
  pub only_then : before.flag ≡ false → after.flag ≡ true → ItsMinuteBegins before core released
  pub stays_up : before.flag ≡ true → after.flag ≡ true
  pub settings_stay : with_flag after false ≡ with_flag before false

pub record AlarmsRingAtRelease (before after : FileState) : Type 0 where
  pub weekly : RowRingsAtRelease before.core after.core (alarm before 0) (alarm after 0)
  pub daily : RowRingsAtRelease before.core after.core (alarm before 1) (alarm after 1)
