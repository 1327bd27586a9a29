-- A bare core is true to its sights.
use Rattle.std.proofs.Common.{◌≡◌, ℕ, Bool, true, false, cond, eqb, ltb, List, length, get_or, Some, None, Ok, Err, sym, refl, ap, ◌∙◌, subst, arith, ltb-true, eqb-true}
use Rattle.refusals.specs.declared.Refusal.TheVariants.{TooManyPulses, ShortBuffer, NoSuchCell, AlreadyHeld, NotHeld}
use Rattle.register_map.specs.declared.hour_mode.HourMode.{HourMode}
use Rattle.register_map.specs.declared.hour_mode.HourMode.TheVariants.{Twelve, TwentyFour}
use Rattle.register_map.specs.Chart.{Chart, Lawful, map_state, put_byte}
use Rattle.clock_core.specs.Core.{CoreState, Accepted as Acceptance, with_map, many_pulses, registers, released, set_core_mode}
use Rattle.std.proofs.lemmas.List.{get_or_append_left}
use Rattle.timekeeping.specs.declared.call.CoreCall.{CoreCall}
use Rattle.timekeeping.specs.declared.call.CoreCall.TheVariants.{Pulses, Hold, Release, Read, Write, Look, SetTrim, SetHourMode, RestartSecond}
use Rattle.timekeeping.specs.declared.call.CoreAnswer.TheVariants.{Registers}
use Rattle.timekeeping.specs.CoreCalls.{Answer, accepted_with, byte_read, do_call, same_mode, core_sight, core_machine}
use Rattle.timekeeping.specs.Logs.{Nothing, Wrote, state_after}
use Rattle.timekeeping.proofs.Keeping.{Acts, held_core}
use Rattle.timekeeping.specs.Law.{KeepsTime}
use Rattle.timekeeping.proofs.Theorem.{TrueToSights, the_law}

pub modes_agree : (m to : HourMode) → same_mode m to ≡ true → m ≡ to
modes_agree Twelve Twelve e = refl
modes_agree Twelve TwentyFour e = cc
modes_agree TwentyFour Twelve e = cc
modes_agree TwentyFour TwentyFour e = refl

module _ (c : Chart) (mode : HourMode) (s : CoreState) where
  acts_pulses : (n : ℕ) (refused : Bool) → Acts c mode (core_sight c.count mode (Pulses n) (accepted_with (cond {A = Acceptance × CoreState} refused (Err TooManyPulses, s) (Ok tt, many_pulses c n s))).0) s (cond {A = Acceptance × CoreState} refused (Err TooManyPulses, s) (Ok tt, many_pulses c n s)).1
  acts_pulses n true = λ _. refl
  acts_pulses n false = refl

  acts_hold : (held : Bool) → s.held ≡ held → Acts c mode (core_sight c.count mode Hold (accepted_with (cond {A = Acceptance × CoreState} held (Err AlreadyHeld, s) (Ok tt, held_core s))).0) s (cond {A = Acceptance × CoreState} held (Err AlreadyHeld, s) (Ok tt, held_core s)).1
  acts_hold true e = λ _. refl
  acts_hold false e = (e, refl)

  acts_release : (held : Bool) → s.held ≡ held → Acts c mode (core_sight c.count mode Release (accepted_with (cond {A = Acceptance × CoreState} held (Ok tt, released c s) (Err NotHeld, s))).0) s (cond {A = Acceptance × CoreState} held (Ok tt, released c s) (Err NotHeld, s)).1
  acts_release true e = (e, refl)
  acts_release false e = λ _. refl

  one_is : (at cell byte : ℕ) (same : Bool) → eqb at cell ≡ same → cond same (Some (get_or s.map.cells at 0)) None ≡ Some byte → byte ≡ get_or s.map.cells cell 0
  one_is at cell byte true e f =
      let here : byte ≡ get_or s.map.cells at 0 = cc in
      here ∙ ap (λ (k : ℕ). get_or s.map.cells k 0) (eqb-true _ _ e)
  one_is at cell byte false e f = cc

  acts_read : (at : ℕ) (there : Bool) → Acts c mode (core_sight c.count mode (Read at) (byte_read (cond there (Ok (get_or s.map.cells at 0)) (Err NoSuchCell)))) s s
  acts_read at true = (refl, λ whole cell byte f. one_is at cell byte (eqb at cell) refl f)
  acts_read at false = λ _. refl

  pub row_is : (cell byte : ℕ) (inside : Bool) → ltb cell c.count ≡ inside → length s.map.cells ≡ c.count → cond inside (Some (get_or (registers s) cell 0)) None ≡ Some byte → byte ≡ get_or s.map.cells cell 0
  row_is cell byte true e whole f =
      let less = ltb-true _ _ e in
      let here : byte ≡ get_or (registers s) cell 0 = cc in
      here ∙ get_or_append_left s.map.cells _ 0 cell (omega arith)
  row_is cell byte false e whole f = cc

  acts_look : (room : ℕ) (short : Bool) → Acts c mode (core_sight c.count mode (Look room) (cond short (Err ShortBuffer) (Ok (Registers (registers s))))) s s
  acts_look room true = λ _. refl
  acts_look room false = (refl, λ whole cell byte f. row_is cell byte (ltb cell c.count) refl whole f)

  acts_write : (cell byte : ℕ) (there : Bool) → Acts c mode (core_sight c.count mode (Write cell byte) (accepted_with (cond {A = Acceptance × CoreState} there (Ok tt, with_map s (put_byte c s.map cell byte)) (Err NoSuchCell, s))).0) s (cond {A = Acceptance × CoreState} there (Ok tt, with_map s (put_byte c s.map cell byte)) (Err NoSuchCell, s)).1
  acts_write cell byte true = tt
  acts_write cell byte false = λ _. refl

  pub acts_mode : (to : HourMode) (same : Bool) → same_mode mode to ≡ same → Acts c mode (cond same Nothing Wrote) s (set_core_mode s to)
  acts_mode to true e = λ stands. ap (λ (x : HourMode). with_map s (map_state s.map.cells x)) (sym (stands ∙ modes_agree mode to e))
  acts_mode to false e = tt

  -- each call does to the core what the onlooker makes of it
  acts_call : (call : CoreCall) → Acts c mode (core_sight c.count mode call (do_call c s call).0) s (do_call c s call).1
  acts_call (Pulses n) = acts_pulses n (ltb 1048576 n)
  acts_call Hold = acts_hold s.held refl
  acts_call Release = acts_release s.held refl
  acts_call (Read at) = acts_read at (ltb at c.count)
  acts_call (Write cell byte) = acts_write cell byte (ltb cell c.count)
  acts_call (Look room) = acts_look room (ltb room 16)
  acts_call (SetTrim byte) = tt
  acts_call (SetHourMode to) = acts_mode to (same_mode mode to) refl
  acts_call RestartSecond = tt

pub core_true : (c : Chart) (start : CoreState) (mode : HourMode) → TrueToSights (core_machine c) c mode start
core_true c start mode h log heard =
    let s : CoreState = state_after (core_machine c) start log in
    let P : Answer → Type 0 = λ a. Acts c mode (core_sight c.count mode h.call a) s (do_call c s h.call).1 in
    subst P (sym heard.0) (acts_call c mode s h.call)

-- the law for every list of calls on a core
pub core_law : (c : Chart) → Lawful c → (start : CoreState) (calls : List CoreCall) → KeepsTime (core_machine c) c start calls
core_law c law start calls = the_law (core_machine c) c law start (λ new. core_true c start new.map.mode) calls
