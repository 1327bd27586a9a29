-- A 62X42 is true to its sights.
use Rattle.std.proofs.Common.{◌≡◌, ℕ, ◌%◌, ◌<◌, Bool, true, false, cond, ◌||◌, eqb, ltb, List, [], ◌∷◌, length, get_or, Some, None, Ok, Err, Option, sym, refl, ap, ◌∙◌, subst, arith, ltb-true, eqb-true}
use Rattle.std.proofs.lemmas.List.{get_or_append_left}
use Rattle.refusals.specs.declared.Refusal.{Refusal}
use Rattle.refusals.specs.declared.Refusal.TheVariants.{TooManyPulses, ShortBuffer, NoSuchCell, AlreadyHeld, NotHeld}
use Rattle.register_map.specs.declared.hour_mode.HourMode.{HourMode}
use Rattle.register_map.specs.Chart.{put_byte}
use Rattle.digit_map.specs.Cells.{digit_chart}
use Rattle.digit_map.specs.RowLaws.{digit_chart_lawful}
use Rattle.clock_core.specs.Core.{CoreState, Accepted as Acceptance, with_map, many_pulses, released, set_core_mode, hold_core, release_core, load_refusal, loaded, unless_refused}
use Rattle.msm62x42.specs.Part.{hour_mode_of, registers, control_registers, written}
use Rattle.clock_core.proofs.Effects.{pulses_held}
use Rattle.timekeeping.specs.declared.call.CoreAnswer.TheVariants.{Registers}
use Rattle.timekeeping.specs.CoreCalls.{Answer, accepted_with, byte_read, same_mode, one_cell}
use Rattle.timekeeping.specs.Law.{KeepsTime}
use Rattle.timekeeping.specs.Logs.{Sight, Wrote, Nothing, Heard, Log, state_after}
use Rattle.timekeeping.proofs.CoreSights.{acts_mode}
use Rattle.timekeeping.proofs.Heard.{Truly}
use Rattle.timekeeping.proofs.Keeping.{Acts, held_core}
use Rattle.timekeeping.proofs.Theorem.{TrueToSights, the_law}
use Rattle.msm62x42_runs.specs.declared.call.PartCall.{PartCall}
use Rattle.msm62x42_runs.specs.declared.call.PartCall.TheVariants.{Load, Pulses, Read, Write, Deselect, Look}
use Rattle.msm62x42_runs.specs.Calls.{do_call, hold_heard, hold_stands, hold_sight, part_sight, part_machine}

module _ (s : CoreState) where
  -- HOLD as it is written, by whether it stands
  hold_kept : (held : Bool) → s.held ≡ held → (hold_core s).1.held ≡ true
  hold_kept true e = ap (λ (b : Bool). (cond {A = Acceptance × CoreState} b (Err AlreadyHeld, s) (Ok tt, held_core s)).1.held) e ∙ e
  hold_kept false e = ap (λ (b : Bool). (cond {A = Acceptance × CoreState} b (Err AlreadyHeld, s) (Ok tt, held_core s)).1.held) e

  release_kept : (held : Bool) → s.held ≡ held → (release_core digit_chart s).1.held ≡ false
  release_kept true e = ap (λ (b : Bool). (cond {A = Acceptance × CoreState} b (Ok tt, released digit_chart s) (Err NotHeld, s)).1.held) e
  release_kept false e = ap (λ (b : Bool). (cond {A = Acceptance × CoreState} b (Ok tt, released digit_chart s) (Err NotHeld, s)).1.held) e ∙ e

  load_kept : (moment weekday mode : ℕ) (why : Option Refusal) → (unless_refused s (loaded digit_chart moment weekday 0 mode) why).1.held ≡ hold_heard (Load moment weekday mode) (accepted_with (unless_refused s (loaded digit_chart moment weekday 0 mode) why)).0 s.held
  load_kept moment weekday mode None = refl
  load_kept moment weekday mode (Some why) = refl

  pulses_kept : (n : ℕ) (refused : Bool) → (cond {A = Acceptance × CoreState} refused (Err TooManyPulses, s) (Ok tt, many_pulses digit_chart n s)).1.held ≡ hold_heard (Pulses n) (accepted_with (cond {A = Acceptance × CoreState} refused (Err TooManyPulses, s) (Ok tt, many_pulses digit_chart n s))).0 s.held
  pulses_kept n true = refl
  pulses_kept n false = pulses_held digit_chart n s

  written_kept : (address number : ℕ) (cell hold odd mode : Bool) → (cond cell (with_map s (put_byte digit_chart s.map address number)) (cond hold (cond odd (hold_core s).1 (release_core digit_chart s).1) (cond mode (set_core_mode s (hour_mode_of number)) s))).held ≡ cond cell s.held (cond hold odd s.held)
  written_kept address number true hold odd mode = refl
  written_kept address number false true true mode = hold_kept s.held refl
  written_kept address number false true false mode = release_kept s.held refl
  written_kept address number false false odd true = refl
  written_kept address number false false odd false = refl

  write_kept : (address number : ℕ) (refused : Bool) → (cond {A = Acceptance × CoreState} refused (Err NoSuchCell, s) (Ok tt, written s address number)).1.held ≡ hold_heard (Write address number) (accepted_with (cond {A = Acceptance × CoreState} refused (Err NoSuchCell, s) (Ok tt, written s address number))).0 s.held
  write_kept address number true = refl
  write_kept address number false = written_kept address number (ltb address 13) (eqb address 13) (eqb (number % 2) 1) (eqb address 15)

  read_kept : (address : ℕ) (refused : Bool) → s.held ≡ hold_heard (Read address) (byte_read (cond refused (Err NoSuchCell) (Ok (get_or (registers s) address 0)))) s.held
  read_kept address true = refl
  read_kept address false = refl

  look_kept : (room : ℕ) (short : Bool) → s.held ≡ hold_heard (Look room) (cond short (Err ShortBuffer) (Ok (Registers (registers s)))) s.held
  look_kept room true = refl
  look_kept room false = refl

  -- after each call the core is held just where HOLD stands
  call_kept : (call : PartCall) → (do_call s call).1.held ≡ hold_heard call (do_call s call).0 s.held
  call_kept (Load moment weekday mode) = load_kept moment weekday mode (load_refusal digit_chart moment weekday 0 mode)
  call_kept (Pulses n) = pulses_kept n (ltb 1048576 n)
  call_kept (Read address) = read_kept address (ltb 15 address)
  call_kept (Write address number) = write_kept address number (ltb 15 address || ltb 15 number)
  call_kept Deselect = release_kept s.held refl
  call_kept (Look room) = look_kept room (ltb room 16)

hold_tracked : (mode : HourMode) (start : CoreState) → start.held ≡ false → (log : Log part_machine) → Truly part_machine mode start log → (state_after part_machine start log).held ≡ hold_stands log
unfolding state_after hold_stands
hold_tracked mode start free [] heard = free
hold_tracked mode start free (h ∷ log) heard =
    let s : CoreState = state_after part_machine start log in
    call_kept s h.call
    ∙ ap (λ (a : Answer). hold_heard h.call a s.held) (sym heard.0)
    ∙ ap (hold_heard h.call h.answer) (hold_tracked mode start free log heard.1)

module _ (mode : HourMode) (s : CoreState) (hold : Bool) (stands : s.held ≡ hold) where
  acts_hold : (held : Bool) → s.held ≡ held → Acts digit_chart mode (hold_sight true held) s (hold_core s).1
  acts_hold true e = λ _. ap (λ (b : Bool). (cond {A = Acceptance × CoreState} b (Err AlreadyHeld, s) (Ok tt, held_core s)).1) e
  acts_hold false e = (e, ap (λ (b : Bool). (cond {A = Acceptance × CoreState} b (Err AlreadyHeld, s) (Ok tt, held_core s)).1) e)

  acts_release : (held : Bool) → s.held ≡ held → Acts digit_chart mode (hold_sight false held) s (release_core digit_chart s).1
  acts_release true e = (e, ap (λ (b : Bool). (cond {A = Acceptance × CoreState} b (Ok tt, released digit_chart s) (Err NotHeld, s)).1) e)
  acts_release false e = λ _. ap (λ (b : Bool). (cond {A = Acceptance × CoreState} b (Ok tt, released digit_chart s) (Err NotHeld, s)).1) e

  acts_load : (moment weekday o : ℕ) (why : Option Refusal) → Acts digit_chart mode (part_sight mode hold (Load moment weekday o) (accepted_with (unless_refused s (loaded digit_chart moment weekday 0 o) why)).0) s (unless_refused s (loaded digit_chart moment weekday 0 o) why).1
  acts_load moment weekday o None = tt
  acts_load moment weekday o (Some why) = λ _. refl

  acts_pulses : (n : ℕ) (refused : Bool) → Acts digit_chart mode (part_sight mode hold (Pulses n) (accepted_with (cond {A = Acceptance × CoreState} refused (Err TooManyPulses, s) (Ok tt, many_pulses digit_chart n s))).0) s (cond {A = Acceptance × CoreState} refused (Err TooManyPulses, s) (Ok tt, many_pulses digit_chart n s)).1
  acts_pulses n true = λ _. refl
  acts_pulses n false = refl

  acts_written : (address number : ℕ) (cell is_hold odd is_mode : Bool) → Acts digit_chart mode (cond cell Wrote (cond is_hold (hold_sight odd hold) (cond is_mode (cond (same_mode mode (hour_mode_of number)) Nothing Wrote) Nothing))) s (cond cell (with_map s (put_byte digit_chart s.map address number)) (cond is_hold (cond odd (hold_core s).1 (release_core digit_chart s).1) (cond is_mode (set_core_mode s (hour_mode_of number)) s)))
  acts_written address number true is_hold odd is_mode = tt
  acts_written address number false true true is_mode = acts_hold hold stands
  acts_written address number false true false is_mode = acts_release hold stands
  acts_written address number false false odd true = acts_mode digit_chart mode s (hour_mode_of number) (same_mode mode (hour_mode_of number)) refl
  acts_written address number false false odd false = λ _. refl

  acts_write : (address number : ℕ) (refused : Bool) → Acts digit_chart mode (part_sight mode hold (Write address number) (accepted_with (cond {A = Acceptance × CoreState} refused (Err NoSuchCell, s) (Ok tt, written s address number))).0) s (cond {A = Acceptance × CoreState} refused (Err NoSuchCell, s) (Ok tt, written s address number)).1
  acts_write address number true = λ _. refl
  acts_write address number false = acts_written address number (ltb address 13) (eqb address 13) (eqb (number % 2) 1) (eqb address 15)

  -- a cell of the row of registers
  cell_is : (cell : ℕ) → cell < 13 → length s.map.cells ≡ 13 → get_or (registers s) cell 0 ≡ get_or s.map.cells cell 0
  cell_is cell less whole = get_or_append_left s.map.cells (control_registers s) 0 cell (omega arith)

  one_is : (address cell byte : ℕ) (same : Bool) → eqb address cell ≡ same → address < 13 → length s.map.cells ≡ 13 → cond same (Some (get_or (registers s) address 0)) None ≡ Some byte → byte ≡ get_or s.map.cells cell 0
  one_is address cell byte true e less whole f =
      let here : byte ≡ get_or (registers s) address 0 = cc in
      here ∙ cell_is address less whole ∙ ap (λ (k : ℕ). get_or s.map.cells k 0) (eqb-true _ _ e)
  one_is address cell byte false e less whole f = cc

  acts_given : (address : ℕ) (cell : Bool) → ltb address 13 ≡ cell → Acts digit_chart mode (cond cell (Rattle.timekeeping.specs.Logs.Gave (one_cell address (get_or (registers s) address 0))) Nothing) s s
  acts_given address true e = (refl, λ whole at byte f. one_is address at byte (eqb address at) refl (ltb-true _ _ e) whole f)
  acts_given address false e = λ _. refl

  acts_read : (address : ℕ) (refused : Bool) → Acts digit_chart mode (part_sight mode hold (Read address) (byte_read (cond refused (Err NoSuchCell) (Ok (get_or (registers s) address 0))))) s s
  acts_read address true = λ _. refl
  acts_read address false = acts_given address (ltb address 13) refl

  row_is : (cell byte : ℕ) (inside : Bool) → ltb cell 13 ≡ inside → length s.map.cells ≡ 13 → cond inside (Some (get_or (registers s) cell 0)) None ≡ Some byte → byte ≡ get_or s.map.cells cell 0
  row_is cell byte true e whole f =
      let here : byte ≡ get_or (registers s) cell 0 = cc in
      here ∙ cell_is cell (ltb-true _ _ e) whole
  row_is cell byte false e whole f = cc

  acts_look : (room : ℕ) (short : Bool) → Acts digit_chart mode (part_sight mode hold (Look room) (cond short (Err ShortBuffer) (Ok (Registers (registers s))))) s s
  acts_look room true = λ _. refl
  acts_look room false = (refl, λ whole cell byte f. row_is cell byte (ltb cell 13) refl whole f)

  acts_call : (call : PartCall) → Acts digit_chart mode (part_sight mode hold call (do_call s call).0) s (do_call s call).1
  acts_call (Load moment weekday o) = acts_load moment weekday o (load_refusal digit_chart moment weekday 0 o)
  acts_call (Pulses n) = acts_pulses n (ltb 1048576 n)
  acts_call (Read address) = acts_read address (ltb 15 address)
  acts_call (Write address number) = acts_write address number (ltb 15 address || ltb 15 number)
  acts_call Deselect = acts_release hold stands
  acts_call (Look room) = acts_look room (ltb room 16)

-- a part that starts released does to its core what an onlooker makes of its calls
pub part_true : (start : CoreState) → start.held ≡ false → (mode : HourMode) → TrueToSights part_machine digit_chart mode start
part_true start free mode h log heard =
    let s : CoreState = state_after part_machine start log in
    let stands = hold_tracked mode start free log heard.1 in
    let P : Answer → Type 0 = λ a. Acts digit_chart mode (part_sight mode (hold_stands log) h.call a) s (do_call s h.call).1 in
    subst P (sym heard.0) (acts_call mode s (hold_stands log) stands h.call)

-- the law for every list of calls on a part
pub part_law : (start : CoreState) (calls : List PartCall) → KeepsTime part_machine digit_chart start calls
part_law start calls =
    the_law part_machine digit_chart digit_chart_lawful start (λ new. part_true start (ap (λ (s : CoreState). s.held) new.made) new.map.mode) calls
