-- The law of timekeeping over lists of calls: what the calendar shows, how far pulses and seconds may drift,
-- and what one held stretch gives out of the calendar.
use Rattle.std.specs.Prelude.{◌≡◌, ℕ, ◌<◌, false, List, [], ◌∷◌, ◌++◌, pos, neg_ℤ, ◌≤ℤ◌, Some, Option, slice_index}
use Rattle.std.specs.List.{AllByRecursion}
use Rattle.register_map.specs.declared.shown.Shown.{Shown}
use Rattle.register_map.specs.Chart.{Chart, MapState, shown_by, second_of}
use Rattle.clock_core.specs.Core.{CoreState, new_core}
use Rattle.timekeeping.specs.Logs.{Sight, Took, Held, Released, Wrote, Gave, Nothing, Machine, Log, state_after, log_of, sights_after, sights_of, pulses_taken, is_held, Stretch, Undisturbed, ShortStretches}
use Rattle.timekeeping.specs.Seconds.{WholeSeconds, seconds_past, drift}

-- A newly made core: released, at the beginning of a second, over a map that shows a moment and weekday.
pub record NewlyMade (c : Chart) (start : CoreState) : Type 0 where
  pub map : MapState
  pub trim : ℕ
  pub shown : Shown
  pub shows : shown_by c map ≡ Some shown
  pub trim_in_range : trim < 128
  pub made : start ≡ new_core c map trim

-- every byte that a sight gives out as a cell stands there in a row of cells
abbrev pub GivenFrom : List ℕ → Sight → Type 0
GivenFrom row (Took _) = Unit {0}
GivenFrom row Held = Unit {0}
GivenFrom row Released = Unit {0}
GivenFrom row Wrote = Unit {0}
GivenFrom row (Gave bytes) = (cell byte : ℕ) → bytes cell ≡ Some byte → byte ≡ slice_index row cell
GivenFrom row Nothing = Unit {0}

-- the calendar: the moment and weekday shown after a log
abbrev pub calendar : (m : Machine) → Chart → m.State → Log m → Option Shown
calendar m c start log = shown_by c (m.core (state_after m start log)).map

-- What stands after a log that began with a newly made core.
pub record Timekeeping (m : Machine) (c : Chart) (start : m.State) (new : NewlyMade c (m.core start)) (log : Log m) : Type 0 where
  -- n: how many seconds, each of its own length, the pulses taken fill
  pub n : ℕ
  pub whole_seconds : WholeSeconds new.trim (second_of new.shown) (pulses_taken (sights_of m new.map.mode log)) n
  -- while it runs, the calendar has gone n seconds on from the start
  pub calendar_follows_whole_seconds : is_held (sights_of m new.map.mode log) ≡ false → calendar m c start log ≡ Some (seconds_past c n new.shown)
  -- while it is held the calendar is what it was before the hold
  pub calendar_stands_while_held : (s : Stretch m new.map.mode log) → s.later ≡ [] → calendar m c start log ≡ calendar m c start s.before
  -- pulses and seconds stay together
  pub drift_not_below : neg_ℤ (pos 2356) ≤ℤ drift new.trim (pulses_taken (sights_of m new.map.mode log)) n
  pub drift_not_above : drift new.trim (pulses_taken (sights_of m new.map.mode log)) n ≤ℤ pos 657820
  -- every calendar cell that a held stretch gives out spells the one moment and weekday shown as it began
  pub reads_in_a_stretch_agree :
      (s : Stretch m new.map.mode log) (p : Shown) → calendar m c start s.before ≡ Some p → AllByRecursion (GivenFrom (c.code new.map.mode p)) (sights_after m new.map.mode (s.hold ∷ s.before) s.stretch)

-- The law: from a newly made core, under the two premises, all of it stands at the start and after each call of the list.
abbrev pub KeepsTime : (m : Machine) → Chart → m.State → List m.Call → Type 0
KeepsTime m c start calls =
    (new : NewlyMade c (m.core start)) → Undisturbed m new.map.mode (log_of m start calls) → ShortStretches m new.map.mode (log_of m start calls) → (later log : Log m) → log_of m start calls ≡ later ++ log → Timekeeping m c start new log
