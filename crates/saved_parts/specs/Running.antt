-- A core but for its cells, as it is saved and read back.
use Rattle.std.specs.Prelude.{ℕ, Bool, true, false, cond, ◌||◌, List, Some, None, Option, ◌==◌, nat_lt, nat_le}
use Rattle.std.specs.Result.{result_ok}
use Rattle.register_map.specs.declared.hour_mode.HourMode.{HourMode}
use Rattle.register_map.specs.Chart.{map_state}
use Rattle.register_map.specs.Modes.{mode_bit, mode_numbered}
use Rattle.clock_core.specs.Core.{CoreState}
use Rattle.clock_core.specs.View.{is_held, boundary_waits}
use Rattle.clock_core.specs.declared.clock.Hold.{Hold}
use Rattle.clock_core.specs.declared.clock.Hold.TheVariants.{Released, Held}
use Rattle.saved_parts.specs.declared.running.SavedCore.{SavedCore}

-- 0 released, 1 held, 2 held with a boundary that waits
abbrev pub hold_number : Bool → Bool → ℕ
hold_number held waits = cond held (cond waits 2 1) 0

abbrev pub hold_numbered : ℕ → Option Hold
hold_numbered number =
    cond (number == 0) (Some Released) (cond (number == 1) (Some (Held false)) (cond (number == 2) (Some (Held true)) None))

-- a mode by its number
abbrev pub mode_read : ℕ → Option HourMode
mode_read number = result_ok (mode_numbered number)

abbrev pub core_saved : CoreState → SavedCore
core_saved s =
    record {
      position = s.position;
      second_length = s.second;
      hold = hold_number s.held s.waits;
      mode = mode_bit 1 s.map.mode;
      trim = s.trim;
    }

-- a trim, a position or a length that no core keeps
abbrev pub out_of_range : SavedCore → Bool
out_of_range r =
    nat_le 128 r.trim || (nat_le r.second_length r.position || (nat_lt r.second_length 32644 || nat_lt 32892 r.second_length))

abbrev pub core_of : SavedCore → List ℕ → Option Hold → Option HourMode → Option CoreState
core_of r cells None mode = None
core_of r cells (Some hold) None = None
core_of r cells (Some hold) (Some mode) =
    cond (out_of_range r) None
    (Some
    (record {
      map = map_state cells mode;
      trim = r.trim;
      position = r.position;
      second = r.second_length;
      held = is_held hold;
      waits = boundary_waits hold;
    }))

-- the core over these cells, where the numbers are such as a core keeps
abbrev pub core_restored : SavedCore → List ℕ → Option CoreState
core_restored r cells = core_of r cells (hold_numbered r.hold) (mode_read r.mode)
