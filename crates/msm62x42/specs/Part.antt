-- The 62X42: its sixteen registers, and what each call answers and leaves. All its state is that of its core.
use Rattle.std.specs.Prelude.{ℕ, ◌/◌, ◌%◌, Bool, true, false, cond, ◌||◌, List, [], ◌∷◌, ◌++◌, replicate, Ok, Err, Result, ◌==◌, nat_lt, slice_index}
use Rattle.refusals.specs.declared.Refusal.{Refusal}
use Rattle.refusals.specs.declared.Refusal.TheVariants.{NoSuchCell}
use Rattle.register_map.specs.declared.hour_mode.HourMode.{HourMode}
use Rattle.register_map.specs.declared.hour_mode.HourMode.TheVariants.{Twelve}
use Rattle.register_map.specs.Chart.{map_state, put_byte}
use Rattle.register_map.specs.Modes.{mode_if, mode_bit}
use Rattle.digit_map.specs.Cells.{digit_chart}
use Rattle.clock_core.specs.Core.{CoreState, Accepted, idle_core, load_core, give_pulses, hold_core, release_core, with_map, set_core_mode, copied_front}
use Rattle.clock_core.specs.View.{core_by}
use Rattle.msm62x42.specs.declared.part.Msm62x42.{Msm62x42}

-- the part as its contracts speak of it: its core over the digit map
abbrev pub seen : Msm62x42 → CoreState
seen p = core_by (λ m. map_state m.cells.digits m.mode) p.core

-- Dh: 1 is HOLD, 2 is BUSY, and one of them is up
abbrev pub hold_register : Bool → ℕ
hold_register true = 1
hold_register false = 2

-- Dh to Fh; the hour mode is bit 2 of Fh
abbrev pub control_registers : CoreState → List ℕ
control_registers s = hold_register s.held ∷ 0 ∷ mode_bit 4 s.map.mode ∷ []

-- Registers 0 to Fh: the thirteen cells, then Dh to Fh.
abbrev pub registers : CoreState → List ℕ
registers s = s.map.cells ++ control_registers s

-- Power-on: all zero in 12-hour mode, released, its second 32,768 long; BUSY reads 1.
abbrev pub power_on : CoreState
power_on = idle_core (map_state (replicate 13 0) Twelve)

-- Load: this part has no trim.
abbrev pub load_part : CoreState → ℕ → ℕ → ℕ → Accepted × CoreState
load_part s moment weekday mode = load_core digit_chart s moment weekday 0 mode

abbrev pub pulse_part : CoreState → ℕ → Accepted × CoreState
pulse_part s count = give_pulses digit_chart s count

abbrev pub read_part : CoreState → ℕ → Result ℕ Refusal
read_part s address = cond (nat_lt 15 address) (Err NoSuchCell) (Ok (slice_index (registers s) address))

-- the hour mode by bit 2
abbrev pub hour_mode_of : ℕ → HourMode
hour_mode_of number = mode_if (number / 4 % 2 == 1)

-- Writing HOLD 1 holds and writing 0 releases; where that is so already, nothing changes.
abbrev pub hold_written : CoreState → ℕ → CoreState
hold_written s number = cond (number % 2 == 1) (hold_core s).1 (release_core digit_chart s).1

-- what else is written to Dh, Eh and Fh has no effect
abbrev pub control_written : CoreState → ℕ → ℕ → CoreState
control_written s address number =
    cond (address == 13) (hold_written s number) (cond (address == 15) (set_core_mode s (hour_mode_of number)) s)

abbrev pub written : CoreState → ℕ → ℕ → CoreState
written s address number =
    cond (nat_lt address 13) (with_map s (put_byte digit_chart s.map address number)) (control_written s address number)

abbrev pub write_part : CoreState → ℕ → ℕ → Accepted × CoreState
write_part s address number = cond (nat_lt 15 address || nat_lt 15 number) (Err NoSuchCell, s) (Ok tt, written s address number)

-- Deselect is writing HOLD 0.
abbrev pub deselected : CoreState → CoreState
deselected s = (release_core digit_chart s).1

abbrev pub look_part : CoreState → List ℕ → Accepted × List ℕ
look_part s buffer = copied_front (registers s) buffer
