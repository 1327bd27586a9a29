-- A 62X42 as it is saved, and read back. All its state is that of its core.
use Rattle.std.specs.Prelude.{ℕ, Bool, cond, ◌&&◌, None, Option, ◌==◌}
use Rattle.civil_map.specs.Masks.{all_masked}
use Rattle.digit_map.specs.Cells.{used_bits}
use Rattle.clock_core.specs.Core.{CoreState}
use Rattle.saved_parts.specs.declared.part62.Saved62.{Saved62}
use Rattle.saved_parts.specs.declared.running.SavedCore.{SavedCore}
use Rattle.saved_parts.specs.Running.{core_saved, core_restored}

-- what marks a record of this part
abbrev pub mark : ℕ
mark = 0x34583236

abbrev pub saved : CoreState → Saved62
saved s = record { mark = mark; core = core_saved s; cells = s.map.cells; spare = 0; spare_pair = 0 }

-- This part has no trim, and so only seconds of 32,768 pulses.
abbrev pub is_plain : SavedCore → Bool
is_plain r = r.trim == 0 && r.second_length == 32768

-- the part that a record is the saved state of, where it is one
abbrev pub restored : Saved62 → Option CoreState
restored r =
    cond (r.mark == mark && (r.spare == 0 && (r.spare_pair == 0 && is_plain r.core)))
    (cond (all_masked used_bits r.cells) (core_restored r.core r.cells) None) None
