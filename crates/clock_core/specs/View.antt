-- A core as its contracts speak of it: the meaning of its map beside its own numbers.
use Rattle.std.specs.Prelude.{Bool, true, false, Ok, Err, Result}
use Rattle.refusals.specs.declared.Refusal.{Refusal}
use Rattle.register_map.specs.Chart.{MapState, map_state}
use Rattle.register_map.specs.declared.map.RegisterMap.{Ghosts}
use Rattle.clock_core.specs.Core.{CoreState}
use Rattle.clock_core.specs.declared.clock.ClockCore.{ClockCore}
use Rattle.clock_core.specs.declared.clock.Hold.{Hold}
use Rattle.clock_core.specs.declared.clock.Hold.TheVariants.{Released, Held}
use Rattle.clock_core.specs.declared.clock.MakeRefused.{MakeRefused}

abbrev pub is_held : Hold → Bool
is_held Released = false
is_held (Held waits) = true

-- released, none waits
abbrev pub boundary_waits : Hold → Bool
boundary_waits Released = false
boundary_waits (Held waits) = waits

-- by what its map means
abbrev pub core_by : {M : Type 0} → (M → MapState) → ClockCore M → CoreState
core_by state s =
    record {
      map = state s.map;
      trim = s.trim;
      position = s.position;
      second = s.second_length;
      held = is_held s.hold;
      waits = boundary_waits s.hold;
    }

-- a map by its cells and its mode
abbrev pub map_meant : {M : Type 0} → Ghosts M → M → MapState
map_meant g m = map_state (g.cells m) (g.mode m)

abbrev pub meant : {M : Type 0} → Ghosts M → ClockCore M → CoreState
meant g s = core_by (map_meant g) s

-- what make answers: the core made, or why not and the map given back
abbrev pub meant_made : {M : Type 0} → Ghosts M → Result (ClockCore M) (MakeRefused M) → Result CoreState (Refusal × MapState)
meant_made g (Ok s) = Ok (meant g s)
meant_made g (Err e) = Err (e.refusal, map_meant g e.map)
