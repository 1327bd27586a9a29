-- Nothing escapes the onlooker: his notes follow the part, so what he makes of its calls is what the part does.
use Rattle.std.proofs.Common.{Ok, Err, ◌≡◌, ℕ, ◌<◌, ◌≤◌, Bool, true, false, cond, eqb, ltb, List, [], ◌∷◌, length, get_or, Some, None, Option, sym, refl, ap, ◌∙◌, subst, ap₂, arith, ltb-false, ltb-true, le-ltb, lt-ltb, eq-eqb, eqb-true}
use Rattle.refusals.specs.declared.Refusal.TheVariants.{ShortBuffer}
use Rattle.register_map.specs.declared.hour_mode.HourMode.{HourMode}
use Rattle.clock_core.specs.Core.{Accepted as Acceptance}
use Rattle.serial_transfer.specs.declared.phase.SerialOut.{SerialOut}
use Rattle.serial_transfer.specs.declared.phase.Phase.{Phase}
use Rattle.serial_transfer.specs.declared.phase.Phase.TheVariants.{Write, Read}
use Rattle.serial_transfer.specs.Levels.{taken}
use Rattle.rx5c_registers.specs.File.{FileState, registers, masked, hour_mode_in}
use Rattle.rx5c_registers.proofs.Rows.{lower_register}
use Rattle.rx5c348a.specs.declared.pins.PinMove.TheVariants.{CeRises, CeFalls, SclkRises, SclkFalls}
use Rattle.rx5c348a.specs.Pins.{ce_to, Move, move_of, Tells, move_outcome, pins_part}
use Rattle.rx5c348a.proofs.Moves.{tells}
use Rattle.rx5c348a.specs.Part.{PartState}
use Rattle.timekeeping.specs.CoreCalls.{same_mode, one_cell, cells_of}
use Rattle.timekeeping.specs.Logs.{Sight, Took, Held, Released, Wrote, Gave, Nothing, Log, log_of, is_release, is_write}
use Rattle.timekeeping.proofs.Heard.{truly_with}
use Rattle.rx5c348a_runs.specs.declared.call.WireCall.{WireCall}
use Rattle.rx5c348a_runs.specs.declared.call.WireCall.TheVariants.{Load, Pulses, Pins, Look}
use Rattle.rx5c348a_runs.specs.declared.call.WireAnswer.TheVariants.{Registers}
use Rattle.rx5c348a_runs.specs.Onlooker.{Next, WriteTo, ReadFrom, Notes, spelt, given_by, landed_by}
use Rattle.rx5c348a_runs.specs.Calls.{acceptance, levels_answered, load_sight, pulses_sight, pins_sight, look_sight, call_sight, do_call, notes, part_machine}
use Rattle.rx5c348a_runs.specs.Complete.{EighthRise, Disturbs, CalendarOrTrim, OtherHourMode, Disturbance, GivesOut, ByRead, ByLook, CeGoes, WholeCalendar, EverythingIsSeen}
use Rattle.rx5c348a_runs.proofs.Tracking.{PhaseBy, Tracks, part, notes_of, never, is_noted, noted_tracks, same_move, level_by, whole}
use Rattle.rx5c348a_runs.proofs.Runs.{tracked, begins}

-- whether a sight is of bytes given; of a hold or release
abbrev gives : Sight → Bool
gives (Gave _) = true
gives _ = false

abbrev moves : Sight → Bool
moves Held = true
moves Released = true
moves _ = false

-- what he makes of CE as it goes to a level
abbrev ce_sight : Bool → Sight
ce_sight true = Held
ce_sight false = Released

ce_moves : (to : Bool) → moves (ce_sight to) ≡ true
ce_moves true = refl
ce_moves false = refl

-- sights that a test tells apart
apart : {A : Type 0} {x y : Sight} (test : Sight → Bool) → test y ≡ true → test x ≡ false → x ≡ y → A
apart test holds fails is = never (sym fails ∙ ap test is ∙ holds)

-- the sight of a move, as the part answers it
abbrev sight_by : HourMode → Notes → PartState → Move → Sight
sight_by mode e p move = pins_sight mode e move (levels_answered (move_outcome p move).0)

module _ (mode : HourMode) (f : FileState) where
  -- SCLK rises with CE high, seven bits of a calendar cell being over
  module _ (cell byte : ℕ) (burst : Bool) (out : SerialOut) (in_calendar : cell < 7) where
    abbrev Given : Next → List ℕ → List ℕ → Phase → Type 0
    Given next si so ph = sight_by mode (notes_of true false next si so) (part f true false ph) (Ok SclkRises) ≡ Gave (one_cell cell byte)

    read_given : (address : ℕ) (again : Bool) (si so : List ℕ) (ph : Phase) → Tracks (notes_of true false (ReadFrom address again) si so) (part f true false ph) → ph ≡ Read cell burst 7 byte out → Given (ReadFrom address again) si so ph
    read_given address again si so ph t is =
        let r = t.phase in
        let both : Read address again (length si) r.byte r.out ≡ Read cell burst 7 byte out = sym r.stands ∙ is in
        let here : address ≡ cell = cc in
        let seven : length si ≡ 7 = cc in
        let fixed : r.byte ≡ byte = cc in
        let level : ℕ = level_by mode f si so t.few t.held t.sound address again r.byte r.out r.so_far (eqb (length si) 0) in
        let spelled : spelt (level ∷ so) ≡ byte =
        whole mode f si so t.few t.held t.sound address again r.byte r.out r.so_far seven (omega arith) ∙ sym (r.so_far.1 (omega arith) (omega arith)).0 ∙ fixed in
        subst (Given (ReadFrom address again) si so) (sym r.stands)
        (ap (λ (b : Bool). cond b (cond (ltb address 7) (Gave (one_cell address (spelt (level ∷ so)))) Nothing) Nothing) (eq-eqb _ _ seven)
        ∙ ap (λ (b : Bool). cond b (Gave (one_cell address (spelt (level ∷ so)))) Nothing) (lt-ltb _ _ (omega arith))
        ∙ ap₂ (λ (a b : ℕ). Gave (one_cell a b)) here spelled)

    given : (next : Next) (si so : List ℕ) (ph : Phase) → Tracks (notes_of true false next si so) (part f true false ph) → ph ≡ Read cell burst 7 byte out → Given next si so ph
    given (ReadFrom address again) si so ph t is = read_given address again si so ph t is
    given _ si so ph t is = let clash = sym t.phase ∙ is in cc

    rise_given : (c k : Bool) → c ≡ true → k ≡ false → (next : Next) (si so : List ℕ) (ph : Phase) → Tracks (notes_of c k next si so) (part f c k ph) → ph ≡ Read cell burst 7 byte out → sight_by mode (notes_of c k next si so) (part f c k ph) (Ok SclkRises) ≡ Gave (one_cell cell byte)
    rise_given true false a b next si so ph t is = given next si so ph t is
    rise_given true true a b next si so ph t is = never (sym b)
    rise_given false k a b next si so ph t is = never a

  -- what he makes of a byte that disturbs, and what disturbs by what he makes of it
  landed_disturbs : (address byte : ℕ) (again : Bool) → Disturbs mode address byte → landed_by mode (WriteTo address again) byte ≡ Wrote
  landed_disturbs address byte again (CalendarOrTrim less) =
      ap (λ (b : Bool). cond b Wrote (cond (eqb address 14) (cond (same_mode mode (hour_mode_in (masked 14 byte))) Nothing Wrote) Nothing)) (lt-ltb _ _ less)
  landed_disturbs address byte again (OtherHourMode is other) =
      ap (λ (b : Bool). cond b Wrote (cond (eqb address 14) (cond (same_mode mode (hour_mode_in (masked 14 byte))) Nothing Wrote) Nothing)) (le-ltb address 8 (omega arith))
      ∙ ap (λ (b : Bool). cond b (cond (same_mode mode (hour_mode_in (masked 14 byte))) Nothing Wrote) Nothing) (eq-eqb _ _ is)
      ∙ ap (λ (b : Bool). cond b Nothing Wrote) other

  -- of a rise of SCLK he makes a byte given or nothing, of its fall a write or nothing
  module _ (test : Sight → Bool) (none : test Nothing ≡ false) where
    cell_fails : ((b : ℕ → Option ℕ) → test (Gave b) ≡ false) → (calendar : Bool) (b : ℕ → Option ℕ) → test (cond calendar (Gave b) Nothing) ≡ false
    cell_fails fails true b = fails b
    cell_fails fails false b = none

    rise_fails : ((b : ℕ → Option ℕ) → test (Gave b) ≡ false) → (c last : Bool) (next : Next) (byte : ℕ) → test (cond c (cond last (given_by next byte) Nothing) Nothing) ≡ false
    rise_fails fails true true (ReadFrom address burst) byte = cell_fails fails (ltb address 7) (one_cell address byte)
    rise_fails fails true true _ byte = none
    rise_fails fails true false next byte = none
    rise_fails fails false last next byte = none

    write_fails : test Wrote ≡ false → (low control same : Bool) → test (cond low Wrote (cond control (cond same Nothing Wrote) Nothing)) ≡ false
    write_fails fails true control same = fails
    write_fails fails false true true = none
    write_fails fails false true false = fails
    write_fails fails false false same = none

    fall_fails : test Wrote ≡ false → (c last : Bool) (next : Next) (byte : ℕ) → test (cond c (cond last (landed_by mode next byte) Nothing) Nothing) ≡ false
    fall_fails fails true true (WriteTo address burst) byte =
        write_fails fails (ltb address 8) (eqb address 14) (same_mode mode (hour_mode_in (masked 14 byte)))
    fall_fails fails true true _ byte = none
    fall_fails fails true false next byte = none
    fall_fails fails false last next byte = none

  disturbs_by : (address byte : ℕ) (low control same : Bool) → ltb address 8 ≡ low → eqb address 14 ≡ control → same_mode mode (hour_mode_in (masked 14 byte)) ≡ same → cond low Wrote (cond control (cond same Nothing Wrote) Nothing) ≡ Wrote → Disturbs mode address byte
  disturbs_by address byte true control same a b d h = CalendarOrTrim (ltb-true _ _ a)
  disturbs_by address byte false true true a b d h = apart is_write refl refl h
  disturbs_by address byte false true false a b d h = OtherHourMode (eqb-true _ _ b) d
  disturbs_by address byte false false same a b d h = apart is_write refl refl h

-- of loads, pulses and looks he makes neither a hold nor a release, and of the first two no gift
load_fails : (test : Sight → Bool) → test Nothing ≡ false → test Wrote ≡ false → (a : Acceptance) → test (load_sight (acceptance a)) ≡ false
load_fails test none fails (Ok _) = fails
load_fails test none fails (Err why) = none

pulses_fail : (test : Sight → Bool) → test Nothing ≡ false → (n : ℕ) → test (Took n) ≡ false → (a : Acceptance) → test (pulses_sight n (acceptance a)) ≡ false
pulses_fail test none n fails (Ok _) = fails
pulses_fail test none n fails (Err why) = none

module _ (mode : HourMode) (e : Notes) (p : PartState) (t : Tracks e p) where
  abbrev pins_seen : ℕ → Sight
  pins_seen levels = call_sight mode e (Pins levels) (do_call p (Pins levels)).0

  abbrev noted_sight : Move → Sight
  noted_sight move = sight_by mode e (part p.file e.ce e.sclk p.phase) move

  -- he goes by the move that the part makes
  seen_by : (levels : ℕ) (move : Move) → move_of p.ce p.sclk levels ≡ move → pins_seen levels ≡ noted_sight move
  unfolding pins_part
  seen_by levels move is =
      ap₂ (λ (heard made : Move). pins_sight mode e heard (levels_answered (move_outcome p made).0)) (sym (same_move e p t levels) ∙ is) is
      ∙ ap (λ (q : PartState). sight_by mode e q move) (is_noted e p t)

  comes_of : (levels : ℕ) (move : Move) → move_of p.ce p.sclk levels ≡ move → Tells e.ce e.sclk levels move
  comes_of levels move is = subst (Tells e.ce e.sclk levels) (sym (same_move e p t levels) ∙ is) (tells e.ce e.sclk levels)

  reads_seen : (levels cell byte : ℕ) → EighthRise p levels cell byte → pins_seen levels ≡ Gave (one_cell cell byte)
  reads_seen levels cell byte r =
      seen_by levels (Ok SclkRises) r.rises
      ∙ rise_given mode p.file cell byte r.burst r.out r.in_calendar e.ce e.sclk (sym t.ce ∙ r.selected) (comes_of levels (Ok SclkRises) r.rises).0 e.next e.si e.so p.phase (noted_tracks e p t) r.reads

  looks_seen : (room : ℕ) → 16 ≤ room → WholeCalendar p (call_sight mode e (Look room) (do_call p (Look room)).0)
  looks_seen room enough =
      record {
        bytes = cells_of 7 (registers p.file);
        given = ap (λ (b : Bool). look_sight (cond b (Err ShortBuffer) (Ok (Registers (registers p.file))))) (le-ltb room 16 enough);
        each = λ cell less.
            ap (λ (b : Bool). cond b (Some (get_or (registers p.file) cell 0)) None) (lt-ltb _ _ less)
            ∙ ap Some (lower_register p.file cell t.sound.seven less);
      }

  -- the notes tell the phase
  abbrev PhaseIn : Bool → Next → Type 0
  PhaseIn c next = PhaseBy c p.file.core.map.cells e.sclk next e.si e.so p.phase

  -- SCLK falls with CE high, seven bits of a written byte being in
  module _ (address : ℕ) (burst : Bool) (gathered s : ℕ) (disturbs : Disturbs mode address (taken gathered s)) (writes : p.phase ≡ Write address burst 7 gathered) where
    landed : (c : Bool) (next : Next) → c ≡ true → PhaseIn c next → cond c (cond (eqb (length e.si) 7) (landed_by mode next (spelt (s ∷ e.si))) Nothing) Nothing ≡ Wrote
    unfolding spelt
    landed true (WriteTo to again) a phase =
        let both : Write to again (length e.si) (spelt e.si) ≡ Write address burst 7 gathered = sym phase ∙ writes in
        let here : to ≡ address = cc in
        let seven : length e.si ≡ 7 = cc in
        let front : spelt e.si ≡ gathered = cc in
        ap (λ (b : Bool). cond b (landed_by mode (WriteTo to again) (taken (spelt e.si) s)) Nothing) (eq-eqb _ _ seven)
        ∙ ap₂ (λ (a g : ℕ). landed_by mode (WriteTo a again) (taken g s)) here front
        ∙ landed_disturbs mode p.file address (taken gathered s) again disturbs
    landed true (ReadFrom from again) a r = let clash = sym r.stands ∙ writes in cc
    landed true _ a phase = let clash = sym phase ∙ writes in cc
    landed false next a phase = never a

  writes_seen : (levels : ℕ) → Disturbance mode p levels → pins_seen levels ≡ Wrote
  writes_seen levels d =
      let l = d.lands in
      seen_by levels (Ok (SclkFalls l.last)) l.falls
      ∙ landed d.address l.burst l.gathered l.last (subst (Disturbs mode d.address) l.whole d.disturbs) l.writes e.ce e.next (sym t.ce ∙ l.selected) t.phase

  -- a sight of a write comes of a byte that lands and disturbs
  wrote_by : (levels s : ℕ) → move_of p.ce p.sclk levels ≡ Ok (SclkFalls s) → (c last : Bool) (next : Next) → p.ce ≡ c → eqb (length e.si) 7 ≡ last → PhaseIn c next → cond c (cond last (landed_by mode next (spelt (s ∷ e.si))) Nothing) Nothing ≡ Wrote → Disturbance mode p levels
  unfolding spelt
  wrote_by levels s is true true (WriteTo address burst) selected seven phase h =
      let byte : ℕ = taken (spelt e.si) s in
      let writes : p.phase ≡ Write address burst 7 (spelt e.si) = phase ∙ ap (λ (n : ℕ). Write address burst n (spelt e.si)) (eqb-true _ _ seven) in
      record {
        address = address;
        byte = byte;
        lands = record { burst = burst; gathered = spelt e.si; last = s; writes = writes; selected = selected; falls = is; whole = refl };
        disturbs = disturbs_by mode p.file address byte (ltb address 8) (eqb address 14) (same_mode mode (hour_mode_in (masked 14 byte))) refl refl refl h;
      }
  wrote_by levels s is true true _ selected seven phase h = apart is_write refl refl h
  wrote_by levels s is true false next selected seven phase h = apart is_write refl refl h
  wrote_by levels s is false last next selected seven phase h = apart is_write refl refl h

  wrote_alone : (levels : ℕ) (move : Move) → move_of p.ce p.sclk levels ≡ move → noted_sight move ≡ Wrote → Disturbance mode p levels
  wrote_alone levels (Ok (SclkFalls s)) is h = wrote_by levels s is e.ce (eqb (length e.si) 7) e.next t.ce refl t.phase h
  wrote_alone levels (Ok SclkRises) is h =
      apart is_write refl (rise_fails mode p.file is_write refl (λ b. refl) e.ce (eqb (length e.si) 7) e.next _) h
  wrote_alone levels _ is h = apart is_write refl refl h

  no_others_seen : (levels : ℕ) → pins_seen levels ≡ Wrote → Disturbance mode p levels
  no_others_seen levels h = wrote_alone levels (move_of p.ce p.sclk levels) refl (sym (seen_by levels _ refl) ∙ h)

  ce_seen : (to : Bool) → noted_sight (Ok (ce_to to)) ≡ ce_sight to
  ce_seen true = refl
  ce_seen false = refl

  ce_is_seen : (to : Bool) (call : WireCall) → CeGoes to p call → call_sight mode e call (do_call p call).0 ≡ ce_sight to
  ce_is_seen to call g =
      subst (λ (w : WireCall). call_sight mode e w (do_call p w).0 ≡ ce_sight to) (sym g.drives)
      (seen_by g.levels (Ok (ce_to to)) g.goes ∙ ce_seen to)

  look_moves_nothing : (short : Bool) → moves (look_sight (cond short (Err ShortBuffer) (Ok (Registers (registers p.file))))) ≡ false
  look_moves_nothing true = refl
  look_moves_nothing false = refl

  ce_went : (to : Bool) (move : Move) → noted_sight move ≡ ce_sight to → move ≡ Ok (ce_to to)
  ce_went true (Ok CeRises) h = refl
  ce_went false (Ok CeRises) h = never (ap is_release h)
  ce_went true (Ok CeFalls) h = never (sym (ap is_release h))
  ce_went false (Ok CeFalls) h = refl
  ce_went to (Ok SclkRises) h =
      apart moves (ce_moves to) (rise_fails mode p.file moves refl (λ b. refl) e.ce (eqb (length e.si) 7) e.next _) h
  ce_went to (Ok (SclkFalls s)) h =
      apart moves (ce_moves to) (fall_fails mode p.file moves refl refl e.ce (eqb (length e.si) 7) e.next _) h
  ce_went to _ h = apart moves (ce_moves to) refl h

  ce_alone : (to : Bool) (call : WireCall) → call_sight mode e call (do_call p call).0 ≡ ce_sight to → CeGoes to p call
  ce_alone to (Load set) h = apart moves (ce_moves to) (load_fails moves refl refl _) h
  ce_alone to (Pulses n) h = apart moves (ce_moves to) (pulses_fail moves refl n refl _) h
  ce_alone to (Look room) h = apart moves (ce_moves to) (look_moves_nothing (ltb room 16)) h
  ce_alone to (Pins levels) h =
      record { levels = levels; drives = refl; goes = ce_went to (move_of p.ce p.sclk levels) (sym (seen_by levels _ refl) ∙ h) }

  look_given : (room : ℕ) (short : Bool) (bytes : ℕ → Option ℕ) → ltb room 16 ≡ short → look_sight (cond short (Err ShortBuffer) (Ok (Registers (registers p.file)))) ≡ Gave bytes → GivesOut p (Look room)
  look_given room true bytes s h = apart gives refl refl h
  look_given room false bytes s h = ByLook room refl (ltb-false _ _ s)

  -- a sight of bytes given comes of the eighth rise of a calendar cell
  gave_by : (levels byte : ℕ) (bytes : ℕ → Option ℕ) → move_of p.ce p.sclk levels ≡ Ok SclkRises → (c last : Bool) (next : Next) → p.ce ≡ c → eqb (length e.si) 7 ≡ last → PhaseIn c next → cond c (cond last (given_by next byte) Nothing) Nothing ≡ Gave bytes → GivesOut p (Pins levels)
  gave_by levels byte bytes is true true (ReadFrom cell burst) selected seven r h = by (ltb cell 7) refl h
    where
      by : (inside : Bool) → ltb cell 7 ≡ inside → cond inside (Gave (one_cell cell byte)) Nothing ≡ Gave bytes → GivesOut p (Pins levels)
      by true i h =
          let reads : p.phase ≡ Read cell burst 7 r.byte r.out = r.stands ∙ ap (λ (n : ℕ). Read cell burst n r.byte r.out) (eqb-true _ _ seven) in
          ByRead levels cell r.byte refl (record { burst = burst; out = r.out; reads = reads; selected = selected; rises = is; in_calendar = ltb-true _ _ i })
      by false i h = apart gives refl refl h
  gave_by levels byte bytes is true true _ selected seven phase h = apart gives refl refl h
  gave_by levels byte bytes is true false next selected seven phase h = apart gives refl refl h
  gave_by levels byte bytes is false last next selected seven phase h = apart gives refl refl h

  gave_alone : (levels : ℕ) (bytes : ℕ → Option ℕ) (move : Move) → move_of p.ce p.sclk levels ≡ move → noted_sight move ≡ Gave bytes → GivesOut p (Pins levels)
  gave_alone levels bytes (Ok SclkRises) is h = gave_by levels _ bytes is e.ce (eqb (length e.si) 7) e.next t.ce refl t.phase h
  gave_alone levels bytes (Ok (SclkFalls s)) is h =
      apart gives refl (fall_fails mode p.file gives refl refl e.ce (eqb (length e.si) 7) e.next _) h
  gave_alone levels bytes _ is h = apart gives refl refl h

  gifts_alone : (call : WireCall) (bytes : ℕ → Option ℕ) → call_sight mode e call (do_call p call).0 ≡ Gave bytes → GivesOut p call
  gifts_alone (Load set) b h = apart gives refl (load_fails gives refl refl _) h
  gifts_alone (Pulses n) b h = apart gives refl (pulses_fail gives refl n refl _) h
  gifts_alone (Look room) b h = look_given room (ltb room 16) b refl h
  gifts_alone (Pins levels) b h = gave_alone levels b (move_of p.ce p.sclk levels) refl (sym (seen_by levels _ refl) ∙ h)

pub everything_is_seen : EverythingIsSeen
everything_is_seen start loaded calls =
    let mode : HourMode = start.file.core.map.mode in
    let log : Log part_machine = log_of part_machine start calls in
    let t = tracked mode start (begins start loaded.at_rest loaded.new) log (truly_with part_machine mode start calls [] tt) in
    record {
      reads = reads_seen mode (notes log) _ t;
      looks = looks_seen mode (notes log) _ t;
      writes = writes_seen mode (notes log) _ t;
      no_other_writes = no_others_seen mode (notes log) _ t;
      no_other_reads = gifts_alone mode (notes log) _ t;
      holds = ce_is_seen mode (notes log) _ t true;
      no_other_holds = ce_alone mode (notes log) _ t true;
      releases = ce_is_seen mode (notes log) _ t false;
      no_other_releases = ce_alone mode (notes log) _ t false;
      moves = tells _ _;
    }
