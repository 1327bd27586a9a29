-- A 348A is true to its sights, and so keeps time.
use Rattle.std.proofs.Common.{◌≡◌, ℕ, Bool, true, false, cond, ltb, List, [], ◌∷◌, get_or, Some, None, Ok, Err, Option, sym, refl, ap, ◌∙◌, subst, arith, ltb-true}
use Rattle.refusals.specs.declared.Refusal.{Refusal}
use Rattle.refusals.specs.declared.Refusal.TheVariants.{TooManyPulses, ShortBuffer}
use Rattle.register_map.specs.declared.hour_mode.HourMode.{HourMode}
use Rattle.register_map.specs.Chart.{MapState, map_state}
use Rattle.byte_map.specs.Cells.{byte_chart}
use Rattle.byte_map.specs.RowLaws.{byte_chart_lawful}
use Rattle.clock_core.specs.declared.setting.Setting.{Setting}
use Rattle.clock_core.specs.Core.{CoreState, Accepted as Acceptance, loaded, load_refusal, unless_refused}
use Rattle.rx5c_registers.specs.File.{FileState, registers}
use Rattle.rx5c_registers.specs.Clock as clock
use Rattle.clock_core.proofs.Effects.{pulses_held, pulses_map}
use Rattle.rx5c_registers.proofs.Effects.{taken_core}
use Rattle.rx5c_registers.proofs.Rows.{lower_register}
use Rattle.rx5c348a.specs.Part.{PartState, with_file, after_load, load_part, pulse_part}
use Rattle.rx5c348a.specs.Pins.{pins_part}
use Rattle.timekeeping.specs.Law.{NewlyMade, KeepsTime}
use Rattle.timekeeping.specs.Logs.{Log, state_after}
use Rattle.timekeeping.proofs.Heard.{Truly}
use Rattle.timekeeping.proofs.Keeping.{Acts}
use Rattle.timekeeping.proofs.Loads.{loads_new}
use Rattle.timekeeping.proofs.Theorem.{TrueToSights, the_law}
use Rattle.rx5c348a_runs.specs.declared.call.WireCall.{WireCall}
use Rattle.rx5c348a_runs.specs.declared.call.WireCall.TheVariants.{Load, Pulses, Pins, Look}
use Rattle.rx5c348a_runs.specs.declared.call.WireAnswer.TheVariants.{Registers}
use Rattle.rx5c348a_runs.specs.Onlooker.{Notes, silent}
use Rattle.rx5c348a_runs.specs.Calls.{Answered, acceptance, do_call, work_one, note, notes, load_noted, load_sight, pulses_sight, look_sight, call_sight, part_machine}
use Rattle.rx5c348a_runs.specs.Start.{AtRest, Loaded, LoadedIsNew}
use Rattle.rx5c348a_runs.proofs.Sound.{Sound, sound_code, sound_pulses}
use Rattle.rx5c348a_runs.proofs.Tracking.{PhaseBy, Tracks, pins_step}

-- one call more: the notes follow, and the core does what he makes of it
record Step (mode : HourMode) (e : Notes) (p : PartState) (call : WireCall) : Type 0 where
  tracks : Tracks (note call (do_call p call).0 e) (do_call p call).1
  acts : Acts byte_chart mode (call_sight mode e call (do_call p call).0) p.file.core (do_call p call).1.file.core

-- a newly made core has sound cells
sound_new : (s : CoreState) → NewlyMade byte_chart s → Sound s.map
sound_new s new =
    let coded = byte_chart_lawful.shown_is_coded new.map.mode new.map.cells new.shown new.shows in
    let made : s.map ≡ new.map = ap (λ (t : CoreState). t.map) new.made in
    subst Sound (sym made) (subst (λ (cells : List ℕ). Sound (map_state cells new.map.mode)) coded.0 (sound_code new.map.mode new.shown coded.1))

-- at rest with a newly made core the notes begin
pub begins : (start : PartState) → AtRest start → NewlyMade byte_chart start.file.core → Tracks silent start
begins start rest new =
    record {
      ce = rest.unselected;
      sclk = rest.low;
      held = ap (λ (s : CoreState). s.held) new.made;
      few = omega arith;
      sound = sound_new start.file.core new;
      phase = rest.quiet;
    }

-- where the law begins
loaded_by : (p : PartState) (moment weekday trim o : ℕ) (why : Option Refusal) → load_refusal byte_chart moment weekday trim o ≡ why → ◌≡◌ {A = Acceptance} (after_load p (clock.after_load p.file (unless_refused p.file.core (loaded byte_chart moment weekday trim o) why))).0 (Ok tt) → Loaded (after_load p (clock.after_load p.file (unless_refused p.file.core (loaded byte_chart moment weekday trim o) why))).1
loaded_by p moment weekday trim o None is h =
    let accepted : ◌≡◌ {A = Acceptance} (unless_refused p.file.core (loaded byte_chart moment weekday trim o) (load_refusal byte_chart moment weekday trim o)).0 (Ok tt) =
    ap (λ (w : Option Refusal). (unless_refused p.file.core (loaded byte_chart moment weekday trim o) w).0) is in
    let new = loads_new byte_chart byte_chart_lawful p.file.core moment weekday trim o accepted in
    let core : (unless_refused p.file.core (loaded byte_chart moment weekday trim o) (load_refusal byte_chart moment weekday trim o)).1 ≡ loaded byte_chart moment weekday trim o =
    ap (λ (w : Option Refusal). (unless_refused p.file.core (loaded byte_chart moment weekday trim o) w).1) is in
    record { at_rest = record { unselected = refl; low = refl; quiet = refl }; new = subst (NewlyMade byte_chart) core new }
loaded_by p moment weekday trim o (Some why) is h = let z : ◌≡◌ {A = ℕ} 0 1 = cc in absurd (omega arith)

pub loaded_is_new : LoadedIsNew
unfolding load_part
loaded_is_new p moment weekday trim o h = loaded_by p moment weekday trim o (load_refusal byte_chart moment weekday trim o) refl h

module _ (mode : HourMode) (e : Notes) (p : PartState) (t : Tracks e p) where
  step_pins : (levels : ℕ) → Step mode e p (Pins levels)
  unfolding pins_part
  step_pins levels = let step = pins_step e p t mode levels in record { tracks = step.tracks; acts = step.acts }

  -- the phase stays as it was while the cells do
  phase_stays : (ce : Bool) (cells row : List ℕ) → (ce ≡ true → row ≡ cells) → PhaseBy ce cells e.sclk e.next e.si e.so p.phase → PhaseBy ce row e.sclk e.next e.si e.so p.phase
  phase_stays true cells row keeps before = subst (λ (r : List ℕ). PhaseBy true r e.sclk e.next e.si e.so p.phase) (sym (keeps refl)) before
  phase_stays false cells row keeps before = before

  abbrev after_pulses : ℕ → Bool → Acceptance × FileState
  after_pulses n refused = cond refused (Err TooManyPulses, p.file) (Ok tt, clock.pulses_taken n p.file)

  pulses_tracked : (n : ℕ) (refused : Bool) → Tracks e (with_file p (after_pulses n refused).1)
  pulses_tracked n true = record { ce = t.ce; sclk = t.sclk; held = t.held; few = t.few; sound = t.sound; phase = t.phase }
  pulses_tracked n false =
      let core = taken_core n p.file in
      record {
        ce = t.ce;
        sclk = t.sclk;
        held = ap (λ (s : CoreState). s.held) core ∙ pulses_held byte_chart n p.file.core ∙ t.held;
        few = t.few;
        sound = subst Sound (sym (ap (λ (s : CoreState). s.map) core)) (sound_pulses n p.file.core t.sound);
        phase =
            phase_stays e.ce p.file.core.map.cells (clock.pulses_taken n p.file).core.map.cells
            (λ up. ap (λ (s : CoreState). s.map.cells) core ∙ ap (λ (m : MapState). m.cells) (pulses_map byte_chart n p.file.core (t.held ∙ up))) t.phase;
      }

  pulses_act : (n : ℕ) (refused : Bool) → Acts byte_chart mode (pulses_sight n (acceptance (after_pulses n refused).0)) p.file.core (after_pulses n refused).1.core
  pulses_act n true = λ _. refl
  pulses_act n false = taken_core n p.file

  step_pulses : (n : ℕ) → Step mode e p (Pulses n)
  unfolding pulse_part
  step_pulses n = record { tracks = pulses_tracked n (ltb 1048576 n); acts = pulses_act n (ltb 1048576 n) }

  -- a load, by why it is refused
  abbrev after_loading : ℕ → ℕ → ℕ → ℕ → Option Refusal → Acceptance × PartState
  after_loading moment weekday trim o why =
      after_load p (clock.after_load p.file (unless_refused p.file.core (loaded byte_chart moment weekday trim o) why))

  load_tracked : (moment weekday trim o : ℕ) (why : Option Refusal) → load_refusal byte_chart moment weekday trim o ≡ why → Tracks (load_noted (acceptance (after_loading moment weekday trim o why).0) e) (after_loading moment weekday trim o why).1
  load_tracked moment weekday trim o None is =
      let new = loaded_by p moment weekday trim o None is refl in begins _ new.at_rest new.new
  load_tracked moment weekday trim o (Some why) is = t

  load_acts : (moment weekday trim o : ℕ) (why : Option Refusal) → Acts byte_chart mode (load_sight (acceptance (after_loading moment weekday trim o why).0)) p.file.core (after_loading moment weekday trim o why).1.file.core
  load_acts moment weekday trim o None = tt
  load_acts moment weekday trim o (Some why) = λ _. refl

  step_load : (to : Setting) → Step mode e p (Load to)
  unfolding load_part
  step_load to =
      record {
        tracks = load_tracked to.moment to.weekday to.trim to.mode (load_refusal byte_chart to.moment to.weekday to.trim to.mode) refl;
        acts = load_acts to.moment to.weekday to.trim to.mode (load_refusal byte_chart to.moment to.weekday to.trim to.mode);
      }

  row_is : (cell byte : ℕ) (inside : Bool) → ltb cell 7 ≡ inside → cond inside (Some (get_or (registers p.file) cell 0)) None ≡ Some byte → byte ≡ get_or p.file.core.map.cells cell 0
  row_is cell byte true less h =
      let here : byte ≡ get_or (registers p.file) cell 0 = cc in
      here ∙ lower_register p.file cell t.sound.seven (ltb-true _ _ less)
  row_is cell byte false less h = cc

  look_acts : (short : Bool) → Acts byte_chart mode (look_sight (cond short (Err ShortBuffer) (Ok (Registers (registers p.file))))) p.file.core p.file.core
  look_acts true = λ _. refl
  look_acts false = (refl, λ whole cell byte h. row_is cell byte (ltb cell 7) refl h)

  step_look : (room : ℕ) → Step mode e p (Look room)
  step_look room = record { tracks = t; acts = look_acts (ltb room 16) }

  step_call : (call : WireCall) → Step mode e p call
  step_call (Load to) = step_load to
  step_call (Pulses n) = step_pulses n
  step_call (Pins levels) = step_pins levels
  step_call (Look room) = step_look room

-- the notes follow the part along every log
pub tracked : (mode : HourMode) (start : PartState) → Tracks silent start → (log : Log part_machine) → Truly part_machine mode start log → Tracks (notes log) (state_after part_machine start log)
unfolding state_after notes work_one
tracked mode start t [] heard = t
tracked mode start t (h ∷ log) heard =
    let p : PartState = state_after part_machine start log in
    let step = step_call mode (notes log) p (tracked mode start t log heard.1) h.call in
    subst (λ (a : Answered). Tracks (note h.call a (notes log)) (do_call p h.call).1) (sym heard.0) step.tracks

-- a part that starts as loaded does to its core what an onlooker makes of its calls
pub part_true : (start : PartState) → Tracks silent start → (mode : HourMode) → TrueToSights part_machine byte_chart mode start
unfolding work_one
part_true start t mode h log heard =
    let p : PartState = state_after part_machine start log in
    let step = step_call mode (notes log) p (tracked mode start t log heard.1) h.call in
    subst (λ (a : Answered). Acts byte_chart mode (call_sight mode (notes log) h.call a) p.file.core (do_call p h.call).1.file.core) (sym heard.0) step.acts

-- the law for every list of calls on a part
pub part_law : (start : PartState) → AtRest start → (calls : List WireCall) → KeepsTime part_machine byte_chart start calls
part_law start rest calls =
    the_law part_machine byte_chart byte_chart_lawful start (λ new. part_true start (begins start rest new) new.map.mode) calls
