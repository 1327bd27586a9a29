-- An alarm row, as it is saved and read back.
use Rattle.std.specs.Prelude.{Bool, cond, ◌||◌, Some, None, Option, nat_le}
use Rattle.rx5c_registers.specs.declared.alarm.AlarmRow.{AlarmRow}
use Rattle.saved_parts.specs.declared.alarm.SavedAlarm.{SavedAlarm}
use Rattle.saved_parts.specs.Flags.{flag_number, flag_numbered}

abbrev pub alarm_saved : AlarmRow → SavedAlarm
alarm_saved row =
    record {
      minute = row.minute;
      hour = row.hour;
      days = row.days;
      enabled = flag_number row.enabled;
      flag = flag_number row.flag;
    }

abbrev pub alarm_of : SavedAlarm → Option Bool → Option Bool → Option AlarmRow
alarm_of r None flag = None
alarm_of r (Some enabled) None = None
alarm_of r (Some enabled) (Some flag) =
    Some (record { minute = r.minute; hour = r.hour; days = r.days; enabled = enabled; flag = flag })

-- a register with a bit that it does not have
abbrev pub has_unused_bit : SavedAlarm → Bool
has_unused_bit r = nat_le 128 r.minute || (nat_le 64 r.hour || nat_le 128 r.days)

abbrev pub alarm_restored : SavedAlarm → Option AlarmRow
alarm_restored r =
    cond (has_unused_bit r) None (alarm_of r (flag_numbered r.enabled) (flag_numbered r.flag))
