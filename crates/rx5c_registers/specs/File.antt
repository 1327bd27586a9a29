-- The register file: what its sixteen registers read, and what a write to each does.
use Rattle.std.specs.Prelude.{ℕ, Bool, true, cond, not, ◌&&◌, List, [], ◌∷◌, ◌++◌, ◌==◌, bit_and, bit_or, nat_lt, slice_index, slice_index_or, slice_set}
use Rattle.register_map.specs.declared.hour_mode.HourMode.{HourMode}
use Rattle.register_map.specs.Modes.{mode_if, mode_bit}
use Rattle.register_map.specs.Chart.{map_state, put_byte}
use Rattle.byte_map.specs.Cells.{byte_chart}
use Rattle.byte_map.specs.declared.cells.ByteCells.{ByteCells}
use Rattle.civil_map.specs.declared.map.CivilMap.{CivilMap}
use Rattle.clock_core.specs.Core.{CoreState, Accepted, with_map, set_trim, set_core_mode, restart_second, copied_front}
use Rattle.clock_core.specs.declared.clock.ClockCore.{ClockCore}
use Rattle.clock_core.specs.View.{core_by}
use Rattle.rx5c_registers.specs.declared.alarm.AlarmRow.{AlarmRow}
use Rattle.rx5c_registers.specs.declared.file.RegisterFile.{RegisterFile}
use Rattle.rx5c_registers.specs.Alarms.{blank_row, every_day, enabled_to, flag_written, with_minute, with_hour, with_days}

-- The core over the byte map, the alarm rows W and D, XSTP, and the bits that Eh and Fh only store.
pub record FileState : Type 0 where
  pub core : CoreState
  pub alarms : List AlarmRow
  pub stopped : Bool
  pub control : ℕ
  pub flags : ℕ

abbrev pub core_seen : ClockCore (CivilMap ByteCells) → CoreState
core_seen s = core_by (λ m. map_state m.cells.bytes m.mode) s

abbrev pub file_seen : RegisterFile → FileState
file_seen f =
    record {
      core = core_seen f.core;
      alarms = f.alarms;
      stopped = f.oscillator_stopped;
      control = f.stored_control;
      flags = f.stored_flags;
    }

abbrev pub with_core : FileState → CoreState → FileState
with_core f core = record { core = core; alarms = f.alarms; stopped = f.stopped; control = f.control; flags = f.flags }

abbrev pub with_alarms : FileState → List AlarmRow → FileState
with_alarms f rows = record { core = f.core; alarms = rows; stopped = f.stopped; control = f.control; flags = f.flags }

-- Row 0 is Alarm_W, row 1 Alarm_D.
abbrev pub alarm : FileState → ℕ → AlarmRow
alarm f k = slice_index_or f.alarms k (blank_row 0)

abbrev pub with_alarm : FileState → ℕ → AlarmRow → FileState
with_alarm f k row = with_alarms f (slice_set f.alarms k row)

-- each row changed, Alarm_W by one rule and Alarm_D by another
abbrev pub rows_changed : FileState → (AlarmRow → AlarmRow) → (AlarmRow → AlarmRow) → FileState
rows_changed f weekly daily = with_alarms f (weekly (alarm f 0) ∷ daily (alarm f 1) ∷ [])

-- no alarm is set: all zero, but that Alarm_D has every day
abbrev pub blank_alarms : List AlarmRow
blank_alarms = blank_row 0 ∷ blank_row every_day ∷ []

-- a bit where it is set, and 0 where not
abbrev pub bit_if : Bool → ℕ → ℕ
bit_if on mask = cond on mask 0

-- Eh: WALE 80h, DALE 40h, hour mode 20h, and stored CLEN2 10h and CT2 to CT0.
abbrev pub control_byte : FileState → ℕ
control_byte f =
    bit_or (bit_or (bit_if (alarm f 0).enabled 0x80) (bit_if (alarm f 1).enabled 0x40)) (bit_or (mode_bit 0x20 f.core.map.mode) f.control)

-- Fh: XSTP 10h, WAFG 02h, DAFG 01h, and stored VDSL 80h, SCRATCH1 20h, CLEN1 08h and CTFG 04h.
abbrev pub flag_byte : FileState → ℕ
flag_byte f =
    bit_or (bit_or (bit_if (alarm f 0).flag 0x02) (bit_if (alarm f 1).flag 0x01)) (bit_or (bit_if f.stopped 0x10) f.flags)

-- Registers 7 to Fh.
abbrev pub upper_registers : FileState → List ℕ
upper_registers f =
    f.core.trim ∷
    (alarm f 0).minute ∷
    (alarm f 0).hour ∷
    (alarm f 0).days ∷
    (alarm f 1).minute ∷
    (alarm f 1).hour ∷
    0 ∷
    control_byte f ∷
    flag_byte f ∷
    []

-- Registers 0 to Fh: the cells, the trim, Alarm_W, Alarm_D, an empty one, control and flags.
abbrev pub registers : FileState → List ℕ
registers f = f.core.map.cells ++ upper_registers f

-- Which bits each register has, from 0 on; the others read 0.
abbrev pub used_bits : List ℕ
used_bits =
    0x7F ∷ 0x7F ∷ 0x3F ∷ 0x07 ∷ 0x3F ∷ 0x9F ∷ 0xFF ∷ 0x7F ∷ 0x7F ∷ 0x3F ∷ 0x7F ∷ 0x7F ∷ 0x3F ∷ 0x00 ∷ 0xF7 ∷ 0xBF ∷ []

abbrev pub masked : ℕ → ℕ → ℕ
masked address byte = bit_and byte (slice_index used_bits address)

-- a bit of a byte, by its mask
abbrev pub has : ℕ → ℕ → Bool
has byte mask = not ((bit_and byte mask) == 0)

abbrev pub cell_put : CoreState → ℕ → ℕ → CoreState
cell_put s cell byte = with_map s (put_byte byte_chart s.map cell byte)

-- A cell of the map: with the seconds a second begins anew, and a boundary that waits is gone.
abbrev pub cell_written : FileState → ℕ → ℕ → FileState
cell_written f cell byte =
    with_core f (cond (cell == 0) (restart_second byte_chart (cell_put f.core cell byte)) (cell_put f.core cell byte))

-- the hour mode stands in bit 5 of Eh
abbrev pub hour_mode_in : ℕ → HourMode
hour_mode_in byte = mode_if (has byte 0x20)

-- WALE and DALE: a row that is disabled loses its flag.
abbrev pub rows_enabled : FileState → Bool → Bool → FileState
rows_enabled f weekly daily = rows_changed f (enabled_to weekly) (enabled_to daily)

-- Eh: enables, hour mode, and bits that are only stored.
abbrev pub control_written : FileState → ℕ → FileState
control_written f byte =
    record {
      core = set_core_mode f.core (hour_mode_in byte);
      alarms = (rows_enabled f (has byte 0x80) (has byte 0x40)).alarms;
      stopped = f.stopped;
      control = bit_and byte 0x17;
      flags = f.flags;
    }

-- WAFG and DAFG: cleared by 0 and left by 1.
abbrev pub row_flags_written : FileState → Bool → Bool → FileState
row_flags_written f weekly daily = rows_changed f (flag_written weekly) (flag_written daily)

-- Fh: XSTP, too, is cleared by 0 and left by 1; the others are only stored.
abbrev pub flags_written : FileState → ℕ → FileState
flags_written f byte =
    record {
      core = f.core;
      alarms = (row_flags_written f (has byte 0x02) (has byte 0x01)).alarms;
      stopped = f.stopped && has byte 0x10;
      control = f.control;
      flags = bit_and byte 0xAC;
    }

-- Registers 8 to Ch.
abbrev pub alarm_written : FileState → ℕ → ℕ → FileState
alarm_written f address byte =
    cond (address == 8) (with_alarm f 0 (with_minute byte (alarm f 0)))
    (cond (address == 9) (with_alarm f 0 (with_hour byte (alarm f 0)))
    (cond (address == 10) (with_alarm f 0 (with_days byte (alarm f 0)))
    (cond (address == 11) (with_alarm f 1 (with_minute byte (alarm f 1)))
    (cond (address == 12) (with_alarm f 1 (with_hour byte (alarm f 1))) f))))

-- What a byte, its unused bits cleared, does in each register.
abbrev pub put_in : FileState → ℕ → ℕ → FileState
put_in f address byte =
    cond (nat_lt address 7) (cell_written f address byte)
    (cond (address == 7) (with_core f (set_trim f.core byte))
    (cond (nat_lt address 14) (alarm_written f address byte)
    (cond (address == 14) (control_written f byte) (cond (address == 15) (flags_written f byte) f))))

-- A byte written to a register; beyond Fh there is none.
abbrev pub written : FileState → ℕ → ℕ → FileState
written f address byte = put_in f address (masked address byte)

-- A look copies the sixteen registers.
abbrev pub look_at : FileState → List ℕ → Accepted × List ℕ
look_at f buffer = copied_front (registers f) buffer

-- One of the alarm flags pulls /INTR low.
abbrev pub interrupts : FileState → Bool
interrupts f = cond (alarm f 0).flag true (alarm f 1).flag
