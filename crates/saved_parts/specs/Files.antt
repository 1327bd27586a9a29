-- The register file of a 348A, as it is saved and read back.
use Rattle.std.specs.Prelude.{Bool, cond, ◌&&◌, [], ◌∷◌, Some, None, Option, ◌==◌, bit_and}
use Rattle.civil_map.specs.Masks.{all_masked}
use Rattle.byte_map.specs.Cells.{used_bits}
use Rattle.clock_core.specs.Core.{CoreState}
use Rattle.rx5c_registers.specs.declared.alarm.AlarmRow.{AlarmRow}
use Rattle.rx5c_registers.specs.Alarms.{every_day}
use Rattle.rx5c_registers.specs.File.{FileState, alarm}
use Rattle.saved_parts.specs.declared.file.SavedFile.{SavedFile}
use Rattle.saved_parts.specs.Flags.{flag_number, flag_numbered}
use Rattle.saved_parts.specs.Running.{core_saved, core_restored}
use Rattle.saved_parts.specs.Alarms.{alarm_saved, alarm_restored}

abbrev pub file_saved : FileState → SavedFile
file_saved f =
    record {
      core = core_saved f.core;
      cells = f.core.map.cells;
      weekly = alarm_saved (alarm f 0);
      daily = alarm_saved (alarm f 1);
      oscillator_stopped = flag_number f.stopped;
      stored_control = f.control;
      stored_flags = f.flags;
    }

abbrev pub file_of : SavedFile → Option CoreState → Option AlarmRow → Option AlarmRow → Option Bool → Option FileState
file_of r None weekly daily stopped = None
file_of r (Some core) None daily stopped = None
file_of r (Some core) (Some weekly) None stopped = None
file_of r (Some core) (Some weekly) (Some daily) None = None
file_of r (Some core) (Some weekly) (Some daily) (Some stopped) =
    Some (record { core = core; alarms = weekly ∷ daily ∷ []; stopped = stopped; control = r.stored_control; flags = r.stored_flags })

-- what Eh and Fh only store, with no other bit
abbrev pub stored_masked : SavedFile → Bool
stored_masked r =
    bit_and r.stored_control 0x17 == r.stored_control
    && bit_and r.stored_flags 0xAC == r.stored_flags

-- no cell and no stored byte has an unused bit, and Alarm_D is on every day
abbrev pub file_masked : SavedFile → Bool
file_masked r = all_masked used_bits r.cells && (r.daily.days == every_day && stored_masked r)

abbrev pub file_restored : SavedFile → Option FileState
file_restored r =
    cond (file_masked r)
    (file_of r (core_restored r.core r.cells) (alarm_restored r.weekly) (alarm_restored r.daily)
    (flag_numbered r.oscillator_stopped)) None
