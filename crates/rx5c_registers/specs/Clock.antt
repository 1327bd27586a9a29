-- How time passes over the register file: pulses, hold and release with alarms, power-on, load and halt.
use Rattle.std.specs.Prelude.{ℕ, zero, suc, ◌+◌, ◌-◌, Bool, true, false, cond, replicate, Some, None, Ok, Err, Option, ◌==◌, nat_lt, slice_index}
use Rattle.refusals.specs.declared.Refusal.TheVariants.{TooManyPulses}
use Rattle.register_map.specs.declared.hour_mode.HourMode.TheVariants.{Twelve}
use Rattle.register_map.specs.declared.shown.Shown.{Shown}
use Rattle.register_map.specs.Chart.{map_state, shown_by, second_of}
use Rattle.byte_map.specs.Cells.{byte_chart}
use Rattle.clock_core.specs.Core.{CoreState, Accepted, most_pulses, at_position, pulses_left, cross_boundary, idle_core, load_core, hold_core, release_core, set_trim, set_core_mode}
use Rattle.rx5c_registers.specs.Alarms.{rung}
use Rattle.rx5c_registers.specs.File.{FileState, with_core, rows_changed, rows_enabled, blank_alarms}

-- seconds 00 of a moment; no moment has none
abbrev pub at_minute : Option Shown → Bool
at_minute None = false
at_minute (Some p) = second_of p == 0

-- A minute begins: each row looks at the minute, hour and weekday cells.
abbrev pub rows_rung : FileState → ℕ → ℕ → ℕ → FileState
rows_rung f minute hour weekday = rows_changed f (rung minute hour weekday) (rung minute hour weekday)

abbrev pub minute_begun : FileState → FileState
minute_begun f = rows_rung f (slice_index f.core.map.cells 1) (slice_index f.core.map.cells 2) (slice_index f.core.map.cells 3)

-- After an advance: at seconds 00 the alarms are looked at.
abbrev pub after_advance : FileState → FileState
after_advance f = cond (at_minute (shown_by byte_chart f.core.map)) (minute_begun f) f

-- A boundary: released it advances, held it waits.
abbrev pub crossed : FileState → FileState
crossed f =
    cond f.core.held (with_core f (cross_boundary byte_chart f.core))
    (after_advance (with_core f (cross_boundary byte_chart f.core)))

-- One pulse.
abbrev pub pulse_taken : FileState → FileState
pulse_taken f =
    cond (nat_lt (f.core.position + 1) f.core.second) (with_core f (at_position f.core (f.core.position + 1))) (crossed f)

-- So many pulses, one after the other.
unfoldable pub pulses_taken : ℕ → FileState → FileState
pulses_taken zero f = f
pulses_taken (suc n) f = pulses_taken n (pulse_taken f)

abbrev pub give_pulses : FileState → ℕ → Accepted × FileState
give_pulses f n = cond (nat_lt most_pulses n) (Err TooManyPulses, f) (Ok tt, pulses_taken n f)

-- Pulses up to the next boundary: how many are left, and the file then.
abbrev pub run_to_boundary : FileState → ℕ → ℕ × FileState
run_to_boundary f n =
    cond (nat_lt n (pulses_left f.core)) (0, with_core f (at_position f.core (f.core.position + n)))
    (n - pulses_left f.core, crossed f)

-- Hold; where it is held already nothing changes.
abbrev pub held : FileState → FileState
held f = with_core f (hold_core f.core).1

-- Release applies the waiting boundary, and the alarms are looked at then.
abbrev pub released : FileState → FileState
released f =
    cond f.core.waits (after_advance (with_core f (release_core byte_chart f.core).1))
    (with_core f (release_core byte_chart f.core).1)

-- Power-on: all registers zero but XSTP, in 12-hour mode, nothing shown.
abbrev pub power_on : FileState
power_on =
    record { core = idle_core (map_state (replicate 7 0) Twelve); alarms = blank_alarms; stopped = true; control = 0; flags = 0 }

-- what a load leaves: its core, and zeros
abbrev pub loaded_with : CoreState → FileState
loaded_with core = record { core = core; alarms = blank_alarms; stopped = false; control = 0; flags = 0 }

abbrev pub after_load : FileState → Accepted × CoreState → Accepted × FileState
after_load f (Ok u, core) = (Ok u, loaded_with core)
after_load f (Err why, core) = (Err why, f)

-- A load begins the clock at what it is given, all else being zero; a refused one leaves all as it was.
abbrev pub load : FileState → ℕ → ℕ → ℕ → ℕ → Accepted × FileState
load f moment weekday trim mode = after_load f (load_core byte_chart f.core moment weekday trim mode)

-- The oscillator stopped: XSTP is up, trim, control and other flags are zero; cells, alarm registers and the running second stay.
abbrev pub halted : FileState → FileState
halted f =
    record {
      core = set_trim (set_core_mode f.core Twelve) 0;
      alarms = (rows_enabled f false false).alarms;
      stopped = true;
      control = 0;
      flags = 0;
    }
