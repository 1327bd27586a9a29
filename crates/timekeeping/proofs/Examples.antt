-- The example list, worked.
use Rattle.std.proofs.Common.{◌≡◌, ℕ, ◌%◌, Bool, true, false, cond, eqb, List, [], ◌∷◌, Some, Ok, Err, Option, sym, refl, ap, ◌∙◌, subst, arith}
use Rattle.std.specs.Option.{option_map}
use Rattle.refusals.specs.declared.Refusal.TheVariants.{NotHeld}
use Rattle.register_map.specs.declared.shown.Shown.{Shown}
use Rattle.register_map.specs.Chart.{Chart, Lawful, MapState, shown_by, second_of, second_after, advanced_from}
use Rattle.clock_core.specs.Core.{CoreState, Accepted as Acceptance, counted_value, many_pulses, cross_boundary, released, registers}
use Rattle.clock_core.specs.Seconds.{second_pulses, trimmed_length}
use Rattle.clock_core.proofs.Runs.{pulses_to_boundary}
use Rattle.timekeeping.specs.declared.call.CoreCall.{CoreCall}
use Rattle.timekeeping.specs.declared.call.CoreCall.TheVariants.{Pulses, Hold, Release, Look}
use Rattle.timekeeping.specs.declared.call.CoreAnswer.TheVariants.{Accepted, Registers}
use Rattle.timekeeping.specs.CoreCalls.{Answer, accepted_with, core_machine}
use Rattle.timekeeping.specs.Logs.{Heard, Log, state_after, log_with, log_of, answers_in, sights_of, Undisturbed, ShortStretches}
use Rattle.timekeeping.specs.Example.{example_calls, example_core, MeetsPremises}
use Rattle.timekeeping.proofs.Moments.{showable_after}
use Rattle.timekeeping.proofs.ShortLogs.{all_short, unreleased_pulses, short_by_test}

module _ (c : Chart) (law : Lawful c) (m : MapState) (p : Shown) (shows : shown_by c m ≡ Some p) (value : second_of p % 20 ≡ 0) where
  -- the core once it is held
  abbrev held_core : CoreState
  held_core = record { map = m; trim = 0x42; position = 0; second = (example_core c m).second; held = true; waits = false }

  second_is : (example_core c m).second ≡ 32644
  second_is =
      ap (λ (o : Option Shown). second_pulses 0x42 (option_map (counted_value c false) o)) shows
      ∙ ap (λ (n : ℕ). cond (eqb n 0) (trimmed_length 0x42) 32768) value

  -- the stretch crosses the boundary
  crosses : many_pulses c 32644 held_core ≡ cross_boundary c held_core
  crosses = pulses_to_boundary c 32643 held_core (sym second_is)

  abbrev after_pulses : CoreState
  after_pulses = many_pulses c 32644 held_core

  stays_held : after_pulses.held ≡ true
  stays_held = ap (λ (s : CoreState). s.held) crosses

  abbrev release_heard : Bool → Heard CoreCall Answer
  release_heard held = record { call = Release; answer = (accepted_with (cond {A = Acceptance × CoreState} held (Ok tt, released c after_pulses) (Err NotHeld, after_pulses))).0 }

  abbrev earlier : Log (core_machine c)
  earlier =
      record { call = Look 16; answer = Ok (Registers (registers after_pulses)) }
      ∷ record { call = Pulses 32644; answer = Ok Accepted }
      ∷ record { call = Hold; answer = Ok Accepted }
      ∷ []

  -- the log, with every answer
  the_log : log_of (core_machine c) (example_core c m) example_calls ≡ release_heard true ∷ earlier
  unfolding log_with state_after
  the_log = ap (λ (b : Bool). release_heard b ∷ earlier) stays_held

  abbrev answers_with : CoreState → List Answer
  answers_with s = Ok Accepted ∷ Ok Accepted ∷ Ok (Registers (registers s)) ∷ Ok Accepted ∷ []

  the_answers : answers_in (core_machine c) (log_of (core_machine c) (example_core c m) example_calls) ≡ Ok Accepted ∷ Ok Accepted ∷ Ok (Registers (registers (example_core c m))) ∷ Ok Accepted ∷ []
  unfolding answers_in
  the_answers =
      ap (answers_in (core_machine c)) the_log
      ∙ ap answers_with crosses

  after_release : state_after (core_machine c) (example_core c m) (log_of (core_machine c) (example_core c m) example_calls) ≡ released c (cross_boundary c held_core)
  unfolding log_with state_after
  after_release =
      ap (λ (b : Bool). (cond {A = Acceptance × CoreState} b (Ok tt, released c after_pulses) (Err NotHeld, after_pulses)).1) stays_held ∙ ap (released c) crosses

  pub meets_premises : MeetsPremises c m p
  unfolding all_short unreleased_pulses sights_of
  meets_premises =
      record {
        newly_made = record { map = m; trim = 0x42; shown = p; shows = shows; trim_in_range = omega arith; made = refl };
        undisturbed = subst (Undisturbed (core_machine c) m.mode) (sym the_log) (refl, (refl, (refl, (refl, tt))));
        short_stretches = subst (ShortStretches (core_machine c) m.mode) (sym the_log) (short_by_test (core_machine c) m.mode (release_heard true ∷ earlier) refl);
        looked = the_answers;
        one_second_on =
            ap (λ (s : CoreState). shown_by c s.map) after_release
            ∙ ap (λ (o : Option Shown). shown_by c (advanced_from c m o)) shows
            ∙ law.code_shows m.mode (second_after c p) (showable_after c law p (law.shown_is_coded m.mode m.cells p shows).1);
      }
