-- Alarm rows: when a row rings, and what is done to one.
use Rattle.std.specs.Prelude.{ℕ, ◌/◌, ◌%◌, ◌^◌, Bool, false, ◌&&◌, ◌||◌, ◌==◌, nat_lt}
use Rattle.rx5c_registers.specs.declared.alarm.AlarmRow.{AlarmRow}

-- a weekday's bit in a row's days
abbrev pub on_day : ℕ → ℕ → Bool
on_day days weekday = days / 2 ^ weekday % 2 == 1

-- The row's minute has come up, on one of its days.
abbrev pub comes_up : AlarmRow → ℕ → ℕ → ℕ → Bool
comes_up row minute hour weekday = row.minute == minute && (row.hour == hour && on_day row.days weekday)

abbrev pub with_flag : AlarmRow → Bool → AlarmRow
with_flag row flag =
    record { minute = row.minute; hour = row.hour; days = row.days; enabled = row.enabled; flag = flag }

-- A minute begins: an enabled row whose minute it is sets its flag.
abbrev pub rung : ℕ → ℕ → ℕ → AlarmRow → AlarmRow
rung minute hour weekday row = with_flag row (row.flag || (row.enabled && comes_up row minute hour weekday))

-- A row that is turned off has no flag up.
abbrev pub enabled_to : Bool → AlarmRow → AlarmRow
enabled_to to row =
    record { minute = row.minute; hour = row.hour; days = row.days; enabled = to; flag = row.flag && to }

-- Writing 0 to a flag clears it; writing 1 leaves it.
abbrev pub flag_written : Bool → AlarmRow → AlarmRow
flag_written bit row = with_flag row (row.flag && bit)

-- A row's registers have seven bits, six and seven; the others are cleared.
abbrev pub with_minute : ℕ → AlarmRow → AlarmRow
with_minute byte row = record row { minute = byte % 128 }

abbrev pub with_hour : ℕ → AlarmRow → AlarmRow
with_hour byte row = record row { hour = byte % 64 }

abbrev pub with_days : ℕ → AlarmRow → AlarmRow
with_days byte row = record row { days = byte % 128 }

-- a row that is set for nothing, on these days
abbrev pub blank_row : ℕ → AlarmRow
blank_row days = record { minute = 0; hour = 0; days = days; enabled = false; flag = false }

-- all seven days of the week
abbrev pub every_day : ℕ
every_day = 0x7F

-- no register of the row has an unused bit
abbrev pub row_masked : AlarmRow → Bool
row_masked row = nat_lt row.minute 128 && (nat_lt row.hour 64 && nat_lt row.days 128)
