-- What the sights of a list are, by its levels alone, but for the bytes that were given.
use Rattle.std.proofs.Common.{◌≡◌, ℕ, ◌+◌, Bool, true, false, cond, not, ◌&&◌, is_ok, eqb, ltb, leb, List, [], ◌∷◌, length, Some, None, Ok, Err, Option, sym, refl, ap, ◌∙◌, subst, ap₂}
use Rattle.std.specs.List.{AllByRecursion}
use Rattle.refusals.specs.declared.Refusal.TheVariants.{TooManyPulses, ShortBuffer}
use Rattle.register_map.specs.declared.hour_mode.HourMode.{HourMode}
use Rattle.clock_core.specs.Core.{Accepted as Acceptance}
use Rattle.rx5c_registers.specs.File.{FileState, registers}
use Rattle.rx5c_registers.specs.Clock as clock
use Rattle.rx5c348a.specs.declared.pins.PinMove.TheVariants.{CeRises, CeFalls, SclkRises, SclkFalls}
use Rattle.rx5c348a.specs.Part.{PartState, pulse_part}
use Rattle.rx5c348a.specs.Pins.{Move, move_outcome, pins_part}
use Rattle.timekeeping.specs.CoreCalls.{one_cell}
use Rattle.timekeeping.specs.Logs.{Sight, Took, Wrote, Gave, Nothing, Log, hear, state_after, log_with, sights_of, pulses_by, pulses_taken, is_held, held_by, is_write}
use Rattle.timekeeping.proofs.Heard.{Truly}
use Rattle.timekeeping.proofs.ShortLogs.{unreleased_by, unreleased_pulses, all_short}
use Rattle.rx5c348a_runs.specs.declared.call.WireCall.{WireCall}
use Rattle.rx5c348a_runs.specs.declared.call.WireCall.TheVariants.{Load, Pulses, Pins, Look}
use Rattle.rx5c348a_runs.specs.declared.call.WireAnswer.TheVariants.{Registers}
use Rattle.rx5c348a_runs.specs.Onlooker.{Next, ReadFrom, Notes, silent, noted, move_sight, bit_noted, given_by}
use Rattle.rx5c348a_runs.specs.Calls.{acceptance, levels_answered, do_call, work_one, move_heard, note, notes, pins_noted, pins_sight, pulses_sight, look_sight, call_sight, part_machine}
use Rattle.rx5c348a_runs.proofs.Tracking.{Tracks, notes_of, never, same_move}
use Rattle.rx5c348a_runs.proofs.Runs.{tracked}

-- that there is a byte, and not which
abbrev pub mark : Option ℕ → Option ℕ
mark (Some _) = Some 0
mark None = None

-- a sight without the bytes that were given: of these it keeps whether the seconds are among them
abbrev pub shape : Sight → Sight
shape (Gave bytes) = Gave (λ _. mark (bytes 0))
shape x = x

unfoldable pub shapes : List Sight → List Sight
shapes [] = []
shapes (x ∷ sights) = shape x ∷ shapes sights

-- whether a call is accepted after these notes; loads are left out
abbrev pub accepts : Notes → WireCall → Bool
accepts e (Load _) = false
accepts e (Pulses n) = not (ltb 1048576 n)
accepts e (Pins levels) = is_ok (move_heard e levels)
accepts e (Look room) = not (ltb room 16)

-- what is noted and seen of an accepted call, SO being unheard
abbrev pub noted_deaf : Notes → WireCall → Notes
noted_deaf e (Pins levels) = noted e (move_heard e levels) 0
noted_deaf e _ = e

abbrev pub seen_deaf : HourMode → Notes → WireCall → Sight
seen_deaf mode e (Load _) = Nothing
seen_deaf mode e (Pulses n) = Took n
seen_deaf mode e (Pins levels) = move_sight mode e (move_heard e levels) 0
seen_deaf mode e (Look _) = Gave (λ _. Some 0)

unfoldable pub all_accepted : Notes → List WireCall → Bool
all_accepted e [] = true
all_accepted e (call ∷ calls) = accepts e call && all_accepted (noted_deaf e call) calls

unfoldable pub shapes_with : HourMode → Notes → List Sight → List WireCall → List Sight
shapes_with mode e sights [] = sights
shapes_with mode e sights (call ∷ calls) = shapes_with mode (noted_deaf e call) (shape (seen_deaf mode e call) ∷ sights) calls

pub first_of : (a b : Bool) → (a && b) ≡ true → a ≡ true
first_of true b e = refl
first_of false b e = e

pub second_of_both : (a b : Bool) → (a && b) ≡ true → b ≡ true
second_of_both true b e = e
second_of_both false b e = never e

-- notes that differ in SO at most
pub record Alike (e q : Notes) : Type 0 where
  pub so : List ℕ
  pub is : e ≡ notes_of q.ce q.sclk q.next q.si so

fall_alike : (c k last : Bool) (next : Next) (si so none : List ℕ) (s : ℕ) → Alike (cond c (bit_noted (notes_of c k next si so) s last) (notes_of false false next si so)) (cond c (bit_noted (notes_of c k next si none) s last) (notes_of false false next si none))
fall_alike false k last next si so none s = record { so = so; is = refl }
fall_alike true k true next si so none s = record { so = []; is = refl }
fall_alike true k false next si so none s = record { so = so; is = refl }

mark_by : (seconds : Bool) (b d : ℕ) → mark (cond seconds (Some b) None) ≡ mark (cond seconds (Some d) None)
mark_by true b d = refl
mark_by false b d = refl

cell_shape : (calendar : Bool) (address b d : ℕ) → shape (cond calendar (Gave (one_cell address b)) Nothing) ≡ shape (cond calendar (Gave (one_cell address d)) Nothing)
cell_shape true address b d = ap (λ (o : Option ℕ). Gave (λ _. o)) (mark_by (eqb address 0) b d)
cell_shape false address b d = refl

given_shape : (next : Next) (b d : ℕ) → shape (given_by next b) ≡ shape (given_by next d)
given_shape (ReadFrom address burst) b d = cell_shape (ltb address 7) address b d
given_shape _ b d = refl

rise_shape : (c last : Bool) (next : Next) (b d : ℕ) → shape (cond c (cond last (given_by next b) Nothing) Nothing) ≡ shape (cond c (cond last (given_by next d) Nothing) Nothing)
rise_shape true true next b d = given_shape next b d
rise_shape true false next b d = refl
rise_shape false last next b d = refl

module _ (mode : HourMode) (e : Notes) (p : PartState) (t : Tracks e p) (q : Notes) (alike : Alike e q) where
  pub record AlikeAfter (call : WireCall) : Type 0 where
    pub noted : Alike (note call (do_call p call).0 e) (noted_deaf q call)
    pub seen : shape (call_sight mode e call (do_call p call).0) ≡ shape (seen_deaf mode q call)

  pulses_seen : (n : ℕ) (refused : Bool) → not refused ≡ true → pulses_sight n (acceptance (cond {A = Acceptance × FileState} refused (Err TooManyPulses, p.file) (Ok tt, clock.pulses_taken n p.file)).0) ≡ Took n
  pulses_seen n true ok = never ok
  pulses_seen n false ok = refl

  look_seen : (short : Bool) → not short ≡ true → shape (look_sight (cond short (Err ShortBuffer) (Ok (Registers (registers p.file))))) ≡ Gave (λ _. Some 0)
  look_seen true ok = never ok
  look_seen false ok = refl

  pins_alike : (move : Move) (v : ℕ) → Alike (noted e move v) (noted q move 0)
  pins_alike move v =
      subst (λ (n : Notes). Alike (noted n move v) (noted q move 0)) (sym alike.is) (at move)
    where
      at : (move : Move) → Alike (noted (notes_of q.ce q.sclk q.next q.si alike.so) move v) (noted q move 0)
      at (Ok CeRises) = record { so = []; is = refl }
      at (Ok CeFalls) = record { so = []; is = refl }
      at (Ok SclkRises) = record { so = cond q.ce (v ∷ alike.so) alike.so; is = refl }
      at (Ok (SclkFalls s)) = fall_alike q.ce q.sclk (eqb (length q.si) 7) q.next q.si alike.so q.so s
      at _ = record { so = alike.so; is = refl }

  pins_shape : (move : Move) (v : ℕ) → shape (move_sight mode e move v) ≡ shape (move_sight mode q move 0)
  pins_shape move v = ap (λ (n : Notes). shape (move_sight mode n move v)) alike.is ∙ at move
    where
      at : (move : Move) → shape (move_sight mode (notes_of q.ce q.sclk q.next q.si alike.so) move v) ≡ shape (move_sight mode q move 0)
      at (Ok SclkRises) = rise_shape q.ce (eqb (length q.si) 7) q.next _ _
      at _ = refl

  -- an accepted move, as he heard it, as the part made it, and by the notes with SO unheard
  record AlikeMove (heard made deaf : Move) : Type 0 where
    follows : Alike (pins_noted heard (levels_answered (move_outcome p made).0) e) (noted q deaf 0)
    seen : shape (pins_sight mode e heard (levels_answered (move_outcome p made).0)) ≡ shape (move_sight mode q deaf 0)

  alike_move : (move : Move) → is_ok move ≡ true → AlikeMove move move move
  alike_move (Ok pin_move) ok = record { follows = pins_alike (Ok pin_move) _; seen = pins_shape (Ok pin_move) _ }
  alike_move (Err why) ok = never ok

  after_pins : (levels : ℕ) → accepts q (Pins levels) ≡ true → AlikeAfter (Pins levels)
  unfolding pins_part
  after_pins levels ok =
      let deaf : Move = move_heard q levels in
      let heard : move_heard e levels ≡ deaf = ap (λ (n : Notes). move_heard n levels) alike.is in
      let both =
      subst (λ (made : Move). AlikeMove (move_heard e levels) made deaf) (sym (same_move e p t levels ∙ heard))
      (subst (λ (m : Move). AlikeMove m deaf deaf) (sym heard) (alike_move deaf ok)) in
      record { noted = both.follows; seen = both.seen }

  pub after_call : (call : WireCall) → accepts q call ≡ true → AlikeAfter call
  unfolding pulse_part
  after_call (Load to) ok = never ok
  after_call (Pulses n) ok = record { noted = alike; seen = ap shape (pulses_seen n (ltb 1048576 n) ok) }
  after_call (Pins levels) ok = after_pins levels ok
  after_call (Look room) ok = record { noted = alike; seen = look_seen (ltb room 16) ok }

module _ (mode : HourMode) (start : PartState) (t : Tracks silent start) where
  -- the sights of a list, by its levels alone
  pub follow : (calls : List WireCall) (log : Log part_machine) (q : Notes) (sights : List Sight) → Truly part_machine mode start log → Alike (notes log) q → shapes (sights_of part_machine mode log) ≡ sights → all_accepted q calls ≡ true → shapes (sights_of part_machine mode (log_with part_machine start log calls)) ≡ shapes_with mode q sights calls
  unfolding log_with sights_of shapes shapes_with all_accepted notes work_one
  follow [] log q sights truly alike same ok = same
  follow (call ∷ calls) log q sights truly alike same ok =
      let after = after_call mode (notes log) (state_after part_machine start log) (tracked mode start t log truly) q alike call (first_of (accepts q call) _ ok) in
      follow calls (hear part_machine start log call ∷ log) (noted_deaf q call) (shape (seen_deaf mode q call) ∷ sights) (refl, truly) after.noted
      (ap₂ ◌∷◌ after.seen same) (second_of_both (accepts q call) _ ok)

-- What the premises and the law ask of sights does not depend on the bytes given.
one_unreleased : (x : Sight) (n : ℕ) → unreleased_by (shape x) n ≡ unreleased_by x n
one_unreleased (Gave b) n = refl
one_unreleased _ n = refl

shapes_unreleased : (sights : List Sight) → unreleased_pulses (shapes sights) ≡ unreleased_pulses sights
unfolding unreleased_pulses shapes
shapes_unreleased [] = refl
shapes_unreleased (x ∷ sights) = one_unreleased x _ ∙ ap (unreleased_by x) (shapes_unreleased sights)

pub shapes_short : (sights : List Sight) → all_short (shapes sights) ≡ all_short sights
unfolding all_short unreleased_pulses shapes
shapes_short [] = refl
shapes_short (x ∷ sights) = ap₂ (λ (n : ℕ) (b : Bool). leb n 32644 && b) (shapes_unreleased (x ∷ sights)) (shapes_short sights)

one_taken : (x : Sight) → pulses_by (shape x) ≡ pulses_by x
one_taken (Gave b) = refl
one_taken _ = refl

pub shapes_taken : (sights : List Sight) → pulses_taken (shapes sights) ≡ pulses_taken sights
unfolding pulses_taken shapes
shapes_taken [] = refl
shapes_taken (x ∷ sights) = ap₂ ◌+◌ (one_taken x) (shapes_taken sights)

one_held : (x : Sight) (before : Bool) → held_by (shape x) before ≡ held_by x before
one_held (Gave b) before = refl
one_held _ before = refl

pub shapes_held : (sights : List Sight) → is_held (shapes sights) ≡ is_held sights
unfolding is_held shapes
shapes_held [] = refl
shapes_held (x ∷ sights) = one_held x _ ∙ ap (held_by x) (shapes_held sights)

unfoldable pub none_written : List Sight → Bool
none_written [] = true
none_written (x ∷ sights) = not (is_write x) && none_written sights

one_unwritten : (x : Sight) → not (is_write (shape x)) ≡ true → is_write x ≡ false
one_unwritten Wrote ok = never ok
one_unwritten _ ok = refl

pub shapes_unwritten : (sights : List Sight) → none_written (shapes sights) ≡ true → AllByRecursion (λ x. is_write x ≡ false) sights
unfolding none_written shapes
shapes_unwritten [] ok = tt
shapes_unwritten (x ∷ sights) ok = (one_unwritten x (first_of (not (is_write (shape x))) _ ok), shapes_unwritten sights (second_of_both (not (is_write (shape x))) _ ok))
