-- An example: a list that meets the law's premises, with a boundary crossed while held.
use Rattle.std.specs.Prelude.{◌≡◌, ◌%◌, List, [], ◌∷◌, Some, Ok}
use Rattle.register_map.specs.declared.shown.Shown.{Shown}
use Rattle.register_map.specs.Chart.{Chart, Lawful, MapState, shown_by, second_of, second_after}
use Rattle.clock_core.specs.Core.{CoreState, new_core, registers}
use Rattle.timekeeping.specs.declared.call.CoreCall.{CoreCall}
use Rattle.timekeeping.specs.declared.call.CoreCall.TheVariants.{Pulses, Hold, Release, Look}
use Rattle.timekeeping.specs.declared.call.CoreAnswer.TheVariants.{Accepted, Registers}
use Rattle.timekeeping.specs.CoreCalls.{core_machine}
use Rattle.timekeeping.specs.Law.{NewlyMade, calendar}
use Rattle.timekeeping.specs.Logs.{log_of, answers_in, Undisturbed, ShortStretches}

-- The core is held for as long as a stretch may last, is looked at, and released.
abbrev pub example_calls : List CoreCall
example_calls = Hold ∷ Pulses 32644 ∷ Look 16 ∷ Release ∷ []

-- With the trim 42h the second at 0 has 32,644 pulses: the stretch reaches its end.
abbrev pub example_core : Chart → MapState → CoreState
example_core c m = new_core c m 0x42

-- The premises hold; the look, taken while the boundary waited, gave the cells as they stood when the core was held;
-- and after release the boundary is on the calendar.
pub record MeetsPremises (c : Chart) (m : MapState) (p : Shown) : Type 0 where
  pub newly_made : NewlyMade c (example_core c m)
  pub undisturbed : Undisturbed (core_machine c) m.mode (log_of (core_machine c) (example_core c m) example_calls)
  pub short_stretches : ShortStretches (core_machine c) m.mode (log_of (core_machine c) (example_core c m) example_calls)
  pub looked : answers_in (core_machine c) (log_of (core_machine c) (example_core c m) example_calls) ≡ Ok Accepted ∷ Ok Accepted ∷ Ok (Registers (registers (example_core c m))) ∷ Ok Accepted ∷ []
  pub one_second_on : calendar (core_machine c) c (example_core c m) (log_of (core_machine c) (example_core c m) example_calls) ≡ Some (second_after c p)

-- On every lawful map that shows such a moment.
abbrev pub PremisesCanBeMet : Type 0
PremisesCanBeMet =
    (c : Chart) → Lawful c → (m : MapState) (p : Shown) → shown_by c m ≡ Some p → second_of p % 20 ≡ 0 → MeetsPremises c m p
