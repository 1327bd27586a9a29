-- The run that is held over its first boundary.
use Rattle.std.proofs.Common.{◌≡◌, ℕ, ◌+◌, ◌-◌, ◌%◌, ◌<◌, ◌≤◌, Bool, true, false, cond, eqb, Some, Option, sym, ap, ◌∙◌, subst, arith, le-ltb}
use Rattle.std.specs.Option.{option_map}
use Rattle.register_map.specs.declared.shown.Shown.{Shown}
use Rattle.register_map.specs.Chart.{Chart, Lawful, MapState, map_state, shown_by, second_of, second_after, advanced, advanced_from}
use Rattle.clock_core.specs.Core.{CoreState, new_core, at_position, counted_value, many_pulses, cross_boundary, run_to_boundary, hold_core, release_core}
use Rattle.clock_core.specs.Seconds.{second_pulses, trimmed_length}
use Rattle.clock_core.proofs.Runs.{pulses_within, pulses_to_boundary, pulses_run}
use Rattle.clock_core.proofs.Values.{value_after}
use Rattle.timekeeping.specs.CoreCalls.{core_machine}
use Rattle.timekeeping.specs.Law.{calendar}
use Rattle.timekeeping.specs.Logs.{state_after, log_with, log_of}
use Rattle.timekeeping.specs.Seconds.{seconds_past}
use Rattle.timekeeping.proofs.Keeping.{core}
use Rattle.timekeeping.proofs.Moments.{showable_after}
use Rattle.figures.specs.Figures.{held_over_first}

-- pulses over one boundary, and on within the next second
over : (c : Chart) (s : CoreState) (n left : ℕ) → s.position < s.second → s.position + n ≡ s.second + left → 0 < n → left < (cross_boundary c s).second → many_pulses c n s ≡ at_position (cross_boundary c s) left
over c s n left within e some room =
    let past : s.second ≤ s.position + n = omega arith in
    let same : left ≡ s.position + n - s.second = omega arith in
    let run : (left, cross_boundary c s) ≡ run_to_boundary c s n =
    ap (λ (k : ℕ). (k, cross_boundary c s)) same
    ∙ sym (ap (λ (b : Bool). cond {A = ℕ × CoreState} b (0, at_position s (s.position + n)) (s.position + n - s.second, cross_boundary c s)) (le-ltb _ _ past)) in
    let rest = pulses_run c s (cross_boundary c s) n left run within some in
    let same_place : 0 + left ≡ left = omega arith in
    sym rest.1 ∙ pulses_within c left (cross_boundary c s) (subst (λ (k : ℕ). k < (cross_boundary c s).second) (sym same_place) room) ∙ ap (at_position (cross_boundary c s)) same_place

module _ (c : Chart) (law : Lawful c) (m : MapState) (p : Shown) (shows : shown_by c m ≡ Some p) (value : second_of p ≡ 59) where
  -- the lengths of the two seconds
  abbrev plain : ℕ
  plain = second_pulses 0x07 (option_map (counted_value c false) (shown_by c m))

  abbrev trimmed : ℕ
  trimmed = second_pulses 0x07 (option_map (counted_value c true) (shown_by c m))

  plain_is : plain ≡ 32768
  plain_is =
      ap (λ (o : Option Shown). second_pulses 0x07 (option_map (counted_value c false) o)) shows
      ∙ ap (λ (n : ℕ). cond (eqb (n % 20) 0) (trimmed_length 0x07) 32768) value

  trimmed_is : trimmed ≡ 32780
  trimmed_is =
      ap (λ (o : Option Shown). second_pulses 0x07 (option_map (counted_value c true) o)) shows
      ∙ ap (λ (n : ℕ). cond (eqb (n % 20) 0) (trimmed_length 0x07) 32768) (value_after c law p ∙ ap (λ (n : ℕ). (n + 1) % 60) value)

  -- the core after each call
  at_200 : many_pulses c 200 (new_core c m 0x07) ≡ core m 0x07 200 plain false false
  at_200 = pulses_within c 200 (new_core c m 0x07) (subst (λ (l : ℕ). 200 < l) (sym plain_is) (omega arith))

  held_on : many_pulses c 32600 (core m 0x07 200 plain true false) ≡ core m 0x07 32 trimmed true true
  held_on =
      over c (core m 0x07 200 plain true false) 32600 32 (subst (λ (l : ℕ). 200 < l) (sym plain_is) (omega arith))
      (ap (λ (l : ℕ). l + 32) (sym plain_is)) (omega arith) (subst (λ (l : ℕ). 32 < l) (sym trimmed_is) (omega arith))

  moved : advanced c m ≡ map_state (c.code m.mode (second_after c p)) m.mode
  moved = ap (advanced_from c m) shows

  shows_next : shown_by c (advanced c m) ≡ Some (second_after c p)
  shows_next =
      ap (shown_by c) moved ∙ law.code_shows m.mode (second_after c p) (showable_after c law p (law.shown_is_coded m.mode m.cells p shows).1)

  shows_second : shown_by c (advanced c (advanced c m)) ≡ Some (second_after c (second_after c p))
  shows_second =
      ap (λ (o : Option Shown). shown_by c (advanced_from c (advanced c m) o)) shows_next
      ∙ law.code_shows (advanced c m).mode (second_after c (second_after c p))
      (showable_after c law (second_after c p) (law.shown_is_coded (advanced c m).mode (advanced c m).cells (second_after c p) shows_next).1)

  -- the last boundary, released
  released_core : CoreState
  released_core = core (advanced c m) 0x07 32 trimmed false false

  last_map : (many_pulses c 32748 released_core).map ≡ advanced c (advanced c m)
  unfolding released_core
  last_map =
      ap (λ (s : CoreState). s.map) (pulses_to_boundary c 32747 released_core (sym trimmed_is))

  pub held_two_on : calendar (core_machine c) c (new_core c m 0x07) (log_of (core_machine c) (new_core c m 0x07) held_over_first) ≡ Some (seconds_past c 2 p)
  unfolding log_with state_after seconds_past released_core
  held_two_on =
      ap (λ (s : CoreState). shown_by c (many_pulses c 32748 (release_core c (many_pulses c 32600 (hold_core s).1)).1).map) at_200
      ∙ ap (λ (s : CoreState). shown_by c (many_pulses c 32748 (release_core c s).1).map) held_on
      ∙ ap (shown_by c) last_map
      ∙ shows_second
