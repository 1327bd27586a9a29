-- The notes of an onlooker follow the part, and the part does to its core what he makes of its calls.
use Rattle.std.proofs.Common.{◌≡◌, ℕ, zero, suc, ◌+◌, ◌-◌, ◌/◌, ◌%◌, ◌^◌, ◌<◌, Bool, true, false, cond, eqb, ltb, List, [], ◌∷◌, length, get_or, Some, None, Ok, Err, Option, sym, refl, ap, ◌∙◌, subst, ap₂, div-one, add-one, arith, ltb-false, ltb-true, eqb-true}
use borrow.Author.Tests.{eqb-false}
use Rattle.register_map.specs.declared.hour_mode.HourMode.{HourMode}
use Rattle.register_map.specs.Chart.{MapState, advanced}
use Rattle.byte_map.specs.Cells.{byte_chart}
use Rattle.clock_core.specs.Core.{CoreState, set_core_mode}
use Rattle.serial_transfer.specs.declared.phase.SerialOut.{SerialOut}
use Rattle.serial_transfer.specs.declared.phase.SerialOut.TheVariants.{Off}
use Rattle.serial_transfer.specs.declared.phase.Landing.{Landing}
use Rattle.serial_transfer.specs.declared.phase.Format.{Format}
use Rattle.serial_transfer.specs.declared.phase.Format.TheVariants.{SingleWrite, BurstWrite, SingleRead, BurstRead}
use Rattle.serial_transfer.specs.declared.phase.Phase.{Phase}
use Rattle.serial_transfer.specs.declared.phase.Phase.TheVariants.{Idle, Header, Write, Read, Deaf}
use Rattle.serial_transfer.specs.Levels.{taken, bit_at, out_number, level_out}
use Rattle.serial_transfer.specs.Rules.{format_coded, data_at, headed, after_write, after_read}
use Rattle.serial_transfer.proofs.Shifts.{taken_more}
use Rattle.rx5c_registers.specs.File.{FileState, written, masked, hour_mode_in}
use Rattle.rx5c_registers.specs.Clock.{held, released}
use Rattle.rx5c_registers.proofs.Effects.{held_core, released_core_held, core_put_by, written_core, written_held}
use Rattle.rx5c_registers.proofs.Rows.{lower_register}
use Rattle.rx5c348a.specs.Part.{PartState}
use Rattle.rx5c348a.specs.declared.pins.PinMove.TheVariants.{Still, CeRises, CeFalls, SclkRises, SclkFalls}
use Rattle.rx5c348a.specs.Pins.{due_byte, with_landing, sclk_to, Move, move_of, Tells, move_outcome}
use Rattle.rx5c348a.proofs.Moves.{tells}
use Rattle.timekeeping.specs.CoreCalls.{one_cell, same_mode}
use Rattle.timekeeping.specs.Logs.{Wrote, Gave, Nothing}
use Rattle.timekeeping.proofs.CoreSights.{acts_mode}
use Rattle.timekeeping.proofs.Keeping.{Acts}
use Rattle.rx5c348a_runs.specs.Onlooker.{Next, AHeader, WriteTo, ReadFrom, Unheard, asked, next_after, Notes, spelt, ce_noted, bit_noted, landed_by}
use Rattle.rx5c348a_runs.specs.Calls.{levels_answered, move_heard, pins_noted, pins_sight}
use Rattle.rx5c348a_runs.proofs.Sound.{Sound, sound_advanced, sound_put}

-- a read byte of a calendar cell, as far as it has come: n of its bits are over, and SCLK is low or high
abbrev pub SoFar : List ℕ → ℕ → ℕ → ℕ → List ℕ → Bool → Type 0
SoFar cells address n byte so false =
    (n ≡ 0 → spelt so ≡ 0) × (0 < n → address < 7 → (byte ≡ get_or cells address 0) × (spelt so ≡ byte / 2 ^ (8 - n)))
SoFar cells address n byte so true = address < 7 → (byte ≡ get_or cells address 0) × (spelt so ≡ byte / 2 ^ (7 - n))

pub record Reading (cells : List ℕ) (high : Bool) (address : ℕ) (burst : Bool) (n : ℕ) (so : List ℕ) (phase : Phase) : Type 0 where
  pub byte : ℕ
  pub out : SerialOut
  pub stands : phase ≡ Read address burst n byte out
  pub so_far : SoFar cells address n byte so high

-- the phase that the notes tell of
abbrev pub Follows : List ℕ → Bool → Next → List ℕ → List ℕ → Phase → Type 0
Follows cells high AHeader si so phase = phase ≡ Header (length si) (spelt si)
Follows cells high (WriteTo address burst) si so phase = phase ≡ Write address burst (length si) (spelt si)
Follows cells high (ReadFrom address burst) si so phase = Reading cells high address burst (length si) so phase
Follows cells high Unheard si so phase = phase ≡ Deaf

abbrev pub PhaseBy : Bool → List ℕ → Bool → Next → List ℕ → List ℕ → Phase → Type 0
PhaseBy true cells high next si so phase = Follows cells high next si so phase
PhaseBy false cells high next si so phase = phase ≡ Idle

-- The notes follow the part.
pub record Tracks (e : Notes) (p : PartState) : Type 0 where
  pub ce : p.ce ≡ e.ce
  pub sclk : p.sclk ≡ e.sclk
  pub held : p.file.core.held ≡ e.ce
  pub few : length e.si < 8
  pub sound : Sound p.file.core.map
  pub phase : PhaseBy e.ce p.file.core.map.cells e.sclk e.next e.si e.so p.phase

pub never : {A : Type 0} → ◌≡◌ {A = Bool} false true → A
never e = let z : ◌≡◌ {A = ℕ} 0 1 = cc in absurd (omega arith)

abbrev pub part : FileState → Bool → Bool → Phase → PartState
part f ce sclk phase = record { file = f; ce = ce; sclk = sclk; phase = phase }

abbrev pub notes_of : Bool → Bool → Next → List ℕ → List ℕ → Notes
notes_of ce sclk next si so = record { ce = ce; sclk = sclk; next = next; si = si; so = so }

-- the notes follow, and the core does what he makes of the move that he heard
pub record Step (mode : HourMode) (e : Notes) (p : PartState) (heard made : Move) : Type 0 where
  pub tracks : Tracks (pins_noted heard (levels_answered (move_outcome p made).0) e) (move_outcome p made).1
  pub acts : Acts byte_chart mode (pins_sight mode e heard (levels_answered (move_outcome p made).0)) p.file.core (move_outcome p made).1.file.core

abbrev StepBy : HourMode → Notes → PartState → Move → Type 0
StepBy mode e p move = Step mode e p move move

out_level : (n : ℕ) → out_number (level_out (n % 2)) ≡ n % 2
out_level n = at (n % 2) (omega arith)
  where
    at : (b : ℕ) → b < 2 → out_number (level_out b) ≡ b
    at zero h = refl
    at (suc zero) h = refl
    at (suc (suc b)) h = absurd (omega arith)

sound_released : (m : MapState) (waits : Bool) → Sound m → Sound (cond waits (advanced byte_chart m) m)
sound_released m true ok = sound_advanced m ok
sound_released m false ok = ok

module _ (mode : HourMode) (e : Notes) (p : PartState) (t : Tracks e p) where
  ce_tracks : (to : Bool) (g : FileState) (s : CoreState) (ph : Phase) → g.core ≡ s → s.held ≡ to → Sound s.map → PhaseBy to g.core.map.cells e.sclk AHeader [] [] ph → Tracks (ce_noted e to) (part g to p.sclk ph)
  ce_tracks to g s ph core is sound phase =
      let stays = subst Sound (sym (ap (λ (c : CoreState). c.map) core)) sound in
      record { ce = refl; sclk = t.sclk; held = ap (λ (c : CoreState). c.held) core ∙ is; few = omega arith; sound = stays; phase = phase }

  ce_rises : e.ce ≡ false → StepBy mode e p (Ok CeRises)
  unfolding spelt
  ce_rises low =
      let core = held_core p.file (t.held ∙ low) in
      record { tracks = ce_tracks true (held p.file) _ (Header 0 0) core refl t.sound refl; acts = (t.held ∙ low, core) }

  ce_falls : e.ce ≡ true → StepBy mode e p (Ok CeFalls)
  ce_falls high =
      let core = released_core_held p.file (t.held ∙ high) in
      record {
        tracks = ce_tracks false (released p.file) _ Idle core refl (sound_released p.file.core.map p.file.core.waits t.sound) refl;
        acts = (t.held ∙ high, core);
      }

module _ (mode : HourMode) (f : FileState) where
  abbrev cells : List ℕ
  cells = f.core.map.cells

  -- a sight of nothing leaves the core
  nothing : (b : Bool) → Acts byte_chart mode (cond b Nothing Nothing) f.core f.core
  nothing true = λ _. refl
  nothing false = λ _. refl

  -- SCLK moves with CE low
  low : (k high : Bool) (next : Next) (si so : List ℕ) (ph : Phase) → Tracks (notes_of false k next si so) (part f false k ph) → (s : ℕ) → StepBy mode (notes_of false k next si so) (part f false k ph) (Ok (sclk_to high s))
  low k high next si so ph t s =
      subst (λ (q : Phase). StepBy mode (notes_of false k next si so) (part f false k q) (Ok (sclk_to high s))) (sym t.phase) (at high)
    where
      at : (high : Bool) → StepBy mode (notes_of false k next si so) (part f false k Idle) (Ok (sclk_to high s))
      at true = record { tracks = record { ce = refl; sclk = refl; held = t.held; few = t.few; sound = t.sound; phase = refl }; acts = λ _. refl }
      at false = record { tracks = record { ce = refl; sclk = refl; held = t.held; few = t.few; sound = t.sound; phase = refl }; acts = λ _. refl }

  -- SCLK rises with CE high: in read data a level goes on SO
  abbrev RiseAt : Next → List ℕ → List ℕ → Phase → Type 0
  RiseAt next si so ph = StepBy mode (notes_of true false next si so) (part f true false ph) (Ok SclkRises)

  raised : (next : Next) (si so later : List ℕ) (ph after : Phase) → Tracks (notes_of true false next si so) (part f true false ph) → Follows cells true next si later after → Tracks (notes_of true true next si later) (part f true true after)
  raised next si so later ph after t follows =
      record { ce = refl; sclk = refl; held = t.held; few = t.few; sound = t.sound; phase = follows }

  module _ (si so : List ℕ) (few : length si < 8) (is_held_lem : f.core.held ≡ true) (sound : Sound f.core.map) where
    module _ (address : ℕ) (burst : Bool) (byte : ℕ) (out : SerialOut) (so_far : SoFar cells address (length si) byte so false) where
      -- the byte that goes out, by whether this rise fixes it
      abbrev pub fixed_by : Bool → ℕ
      fixed_by first = cond first (due_byte f (cond first (Some address) None)) byte

      abbrev pub level_by : Bool → ℕ
      level_by first = out_number (level_out (bit_at (fixed_by first) (7 - length si)))

      comes : (first : Bool) → eqb (length si) 0 ≡ first → address < 7 → (fixed_by first ≡ get_or cells address 0) × (spelt (level_by first ∷ so) ≡ fixed_by first / 2 ^ (7 - length si))
      unfolding spelt
      comes true e less =
          let none : length si ≡ 0 = eqb-true _ _ e in
          let stood : fixed_by true ≡ get_or cells address 0 = lower_register f address sound.seven less in
          let small : fixed_by true < 256 = subst (λ (n : ℕ). n < 256) (sym stood) (sound.bytes address) in
          let top : fixed_by true / 2 ^ 8 ≡ 0 = omega (arith, small) in
          let seven : 7 - length si ≡ 7 = omega arith in
          let level : level_by true ≡ bit_at (fixed_by true) 7 =
          out_level (fixed_by true / 2 ^ (7 - length si)) ∙ ap (bit_at (fixed_by true)) seven in (
            stood,
            ap₂ taken (so_far.0 none ∙ sym top) level ∙ taken_more (fixed_by true) 7 small ∙ ap (λ (k : ℕ). fixed_by true / 2 ^ k) (sym seven),
          )
      comes false e less =
          let some : 0 < length si = let apart = eqb-false _ _ e in omega (arith, apart) in
          let earlier = so_far.1 some less in
          let small : byte < 256 = subst (λ (n : ℕ). n < 256) (sym earlier.0) (sound.bytes address) in
          let one : suc (7 - length si) ≡ 8 - length si = omega arith in
          let front : spelt so ≡ byte / 2 ^ suc (7 - length si) = earlier.1 ∙ ap (λ (k : ℕ). byte / 2 ^ k) (sym one) in (
            earlier.0,
            ap₂ taken front (out_level (byte / 2 ^ (7 - length si))) ∙ taken_more byte (7 - length si) small,
          )

      abbrev pub first : Bool
      first = eqb (length si) 0

      -- the eighth rise gives out the cell
      pub whole : length si ≡ 7 → address < 7 → spelt (level_by first ∷ so) ≡ get_or cells address 0
      whole last less =
          let bits = comes first refl less in
          let none : 7 - length si ≡ 0 = omega arith in
          bits.1 ∙ ap (λ (k : ℕ). fixed_by first / 2 ^ k) none ∙ div-one (fixed_by first) ∙ bits.0

      cell_given : (cell given : ℕ) (here : Bool) → eqb address cell ≡ here → length si ≡ 7 → address < 7 → cond here (Some (spelt (level_by first ∷ so))) None ≡ Some given → given ≡ get_or cells cell 0
      cell_given cell given true e last less h =
          let spelled : given ≡ spelt (level_by first ∷ so) = cc in
          spelled ∙ whole last less ∙ ap (λ (k : ℕ). get_or cells k 0) (eqb-true _ _ e)
      cell_given cell given false e last less h = cc

      given_acts : (last calendar : Bool) → eqb (length si) 7 ≡ last → ltb address 7 ≡ calendar → Acts byte_chart mode (cond last (cond calendar (Gave (one_cell address (spelt (level_by first ∷ so)))) Nothing) Nothing) f.core f.core
      given_acts true true e d = (refl, λ whole cell given h. cell_given cell given (eqb address cell) refl (eqb-true _ _ e) (ltb-true _ _ d) h)
      given_acts true false e d = λ _. refl
      given_acts false calendar e d = λ _. refl

      fixed : Reading cells true address burst (length si) (level_by first ∷ so) (Read address burst (length si) (fixed_by first) (level_out (bit_at (fixed_by first) (7 - length si))))
      fixed = record { byte = fixed_by first; out = level_out (bit_at (fixed_by first) (7 - length si)); stands = refl; so_far = comes first refl }

      rise_read : RiseAt (ReadFrom address burst) si so (Read address burst (length si) byte out)
      rise_read =
          record {
            tracks = record { ce = refl; sclk = refl; held = is_held_lem; few = few; sound = sound; phase = fixed };
            acts = given_acts (eqb (length si) 7) (ltb address 7) refl refl;
          }

  rise : (next : Next) (si so : List ℕ) (ph : Phase) → Tracks (notes_of true false next si so) (part f true false ph) → RiseAt next si so ph
  rise AHeader si so ph t =
      subst (RiseAt AHeader si so) (sym t.phase) (record { tracks = raised AHeader si so _ ph _ t refl; acts = nothing (eqb (length si) 7) })
  rise (WriteTo address burst) si so ph t =
      subst (RiseAt (WriteTo address burst) si so) (sym t.phase) (record { tracks = raised (WriteTo address burst) si so _ ph _ t refl; acts = nothing (eqb (length si) 7) })
  rise (ReadFrom address burst) si so ph t =
      let r = t.phase in
      subst (RiseAt (ReadFrom address burst) si so) (sym r.stands) (rise_read si so t.few t.held t.sound address burst r.byte r.out r.so_far)
  rise Unheard si so ph t =
      subst (RiseAt Unheard si so) (sym t.phase) (record { tracks = raised Unheard si so _ ph _ t refl; acts = nothing (eqb (length si) 7) })

  -- SCLK falls with CE high: a bit is taken, and the eighth makes a byte
  abbrev FallAt : Next → List ℕ → List ℕ → ℕ → Phase → Type 0
  FallAt next si so s ph = StepBy mode (notes_of true true next si so) (part f true true ph) (Ok (SclkFalls s))

  -- what a header asks for
  asked_follows : (row : List ℕ) (address : ℕ) (o : Option Format) → Follows row false (asked address o) [] [] (data_at address o)
  unfolding spelt
  asked_follows row address (Some SingleWrite) = refl
  asked_follows row address (Some BurstWrite) = refl
  asked_follows row address (Some SingleRead) = record { byte = 0; out = Off; stands = refl; so_far = (λ _. refl, λ h. absurd (omega arith)) }
  asked_follows row address (Some BurstRead) = record { byte = 0; out = Off; stands = refl; so_far = (λ _. refl, λ h. absurd (omega arith)) }
  asked_follows row address None = refl

  -- what follows a byte that is written or read
  after_write_follows : (row : List ℕ) (address : ℕ) (burst : Bool) (byte : ℕ) → Follows row false (next_after (WriteTo address burst) byte) [] [] (after_write address burst)
  unfolding spelt
  after_write_follows row address true byte = refl
  after_write_follows row address false byte = refl

  after_read_follows : (row : List ℕ) (address : ℕ) (burst : Bool) (byte : ℕ) (out : SerialOut) → Follows row false (next_after (ReadFrom address burst) byte) [] [] (after_read address burst out)
  unfolding spelt
  after_read_follows row address true byte out = record { byte = 0; out = out; stands = refl; so_far = (λ _. refl, λ h. absurd (omega arith)) }
  after_read_follows row address false byte out = refl

  -- A byte that lands leaves the core's cells sound, and does what he makes of it.
  module _ (address byte : ℕ) where
    abbrev m : ℕ
    m = masked address byte

    put_sound : (z a b c d : Bool) → Sound f.core.map → Sound (core_put_by f.core address m z a b c d).map
    put_sound true true b c d ok = sound_put f.core.map address m ok
    put_sound false true b c d ok = sound_put f.core.map address m ok
    put_sound z false true c d ok = ok
    put_sound z false false true d ok = ok
    put_sound z false false false true ok = record { seven = ok.seven; bytes = ok.bytes }
    put_sound z false false false false ok = ok

    written_sound : Sound f.core.map → Sound (written f address byte).core.map
    written_sound ok =
        subst (λ (c : CoreState). Sound c.map) (sym (written_core f address byte)) (put_sound (eqb address 0) (ltb address 7) (eqb address 7) (ltb address 14) (eqb address 14) ok)

    mode_acts : address ≡ 14 → Acts byte_chart mode (cond (same_mode mode (hour_mode_in (masked 14 byte))) Nothing Wrote) f.core (set_core_mode f.core (hour_mode_in m))
    mode_acts is =
        subst (λ (k : ℕ). Acts byte_chart mode (cond (same_mode mode (hour_mode_in (masked 14 byte))) Nothing Wrote) f.core (set_core_mode f.core (hour_mode_in (masked k byte)))) (sym is)
        (acts_mode byte_chart mode f.core (hour_mode_in (masked 14 byte)) (same_mode mode (hour_mode_in (masked 14 byte))) refl)

    put_acts : (u z a b c d : Bool) → ltb address 8 ≡ u → ltb address 7 ≡ a → eqb address 7 ≡ b → ltb address 14 ≡ c → eqb address 14 ≡ d → Acts byte_chart mode (cond u Wrote (cond d (cond (same_mode mode (hour_mode_in (masked 14 byte))) Nothing Wrote) Nothing)) f.core (core_put_by f.core address m z a b c d)
    put_acts true z a b c d p q r t x = tt
    put_acts false z true b c d p q r t x =
        let high = ltb-false _ _ p in
        let low = ltb-true _ _ q in
        absurd (omega arith)
    put_acts false z false true c d p q r t x =
        let high = ltb-false _ _ p in
        let is = eqb-true _ _ r in
        absurd (omega arith)
    put_acts false z false false true true p q r t x =
        let low = ltb-true _ _ t in
        let is = eqb-true _ _ x in
        absurd (omega arith)
    put_acts false z false false true false p q r t x = λ _. refl
    put_acts false z false false false true p q r t x = mode_acts (eqb-true _ _ x)
    put_acts false z false false false false p q r t x = λ _. refl

    written_acts : Acts byte_chart mode (cond (ltb address 8) Wrote (cond (eqb address 14) (cond (same_mode mode (hour_mode_in (masked 14 byte))) Nothing Wrote) Nothing)) f.core (written f address byte).core
    written_acts =
        subst (Acts byte_chart mode (cond (ltb address 8) Wrote (cond (eqb address 14) (cond (same_mode mode (hour_mode_in (masked 14 byte))) Nothing Wrote) Nothing)) f.core) (sym (written_core f address byte))
        (put_acts (ltb address 8) (eqb address 0) (ltb address 7) (eqb address 7) (ltb address 14) (eqb address 14) refl refl refl refl refl)

  module _ (si so : List ℕ) (few : length si < 8) (is_held_lem : f.core.held ≡ true) (sound : Sound f.core.map) (s : ℕ) where
    -- one more bit, and not the last
    not_last : eqb (length si) 7 ≡ false → suc (length si) < 8
    not_last e = let apart = eqb-false _ _ e in omega (arith, apart)

    bit_tracks : (next : Next) (g : Bool → FileState) (ph : Bool → Phase) → ((last : Bool) → (g last).core.held ≡ true) → ((last : Bool) → Sound (g last).core.map) → Follows (g true).core.map.cells false (next_after next (spelt (s ∷ si))) [] [] (ph true) → Follows (g false).core.map.cells false next (s ∷ si) so (ph false) → (last : Bool) → eqb (length si) 7 ≡ last → Tracks (bit_noted (notes_of true true next si so) s last) (part (g last) true false (ph last))
    bit_tracks next g ph held ok whole more true e =
        record { ce = refl; sclk = refl; held = held true; few = omega arith; sound = ok true; phase = whole }
    bit_tracks next g ph held ok whole more false e =
        record { ce = refl; sclk = refl; held = held false; few = not_last e; sound = ok false; phase = more }

    abbrev byte : ℕ
    byte = taken (spelt si) s

    fall_header : FallAt AHeader si so s (Header (length si) (spelt si))
    unfolding spelt
    fall_header =
        record {
          tracks =
              bit_tracks AHeader (λ _. f) (λ last. cond last (headed byte) (Header (length si + 1) byte)) (λ _. is_held_lem) (λ _. sound)
              (asked_follows cells (byte / 16) (format_coded (byte % 16))) (ap (λ (n : ℕ). Header n byte) (add-one (length si))) (eqb (length si) 7) refl;
          acts = nothing (eqb (length si) 7);
        }

    fall_deaf : FallAt Unheard si so s Deaf
    fall_deaf =
        record {
          tracks = bit_tracks Unheard (λ _. f) (λ _. Deaf) (λ _. is_held_lem) (λ _. sound) refl refl (eqb (length si) 7) refl;
          acts = nothing (eqb (length si) 7);
        }

    module _ (address : ℕ) (burst : Bool) where
      abbrev landed : Bool → Option Landing × Phase
      landed last = cond last (Some (record { address = address; byte = byte }), after_write address burst) (None, Write address burst (length si + 1) byte)

      held_after : (last : Bool) → (with_landing f (landed last).0).core.held ≡ true
      held_after true = written_held f address byte ∙ is_held_lem
      held_after false = is_held_lem

      sound_after : (last : Bool) → Sound (with_landing f (landed last).0).core.map
      sound_after true = written_sound address byte sound
      sound_after false = sound

      write_acts : (last : Bool) → Acts byte_chart mode (cond last (landed_by mode (WriteTo address burst) (spelt (s ∷ si))) Nothing) f.core (with_landing f (landed last).0).core
      unfolding spelt
      write_acts true = written_acts address byte
      write_acts false = λ _. refl

      fall_write : FallAt (WriteTo address burst) si so s (Write address burst (length si) (spelt si))
      unfolding spelt
      fall_write =
          record {
            tracks =
                bit_tracks (WriteTo address burst) (λ last. with_landing f (landed last).0) (λ last. (landed last).1) held_after sound_after
                (after_write_follows (written f address byte).core.map.cells address burst byte) (ap (λ (n : ℕ). Write address burst n byte) (add-one (length si))) (eqb (length si) 7) refl;
            acts = write_acts (eqb (length si) 7);
          }

      module _ (old : ℕ) (out : SerialOut) (so_far : SoFar cells address (length si) old so true) where
        later : address < 7 → (old ≡ get_or cells address 0) × (spelt so ≡ old / 2 ^ (8 - suc (length si)))
        later less =
            let whole = so_far less in
            let one : 7 - length si ≡ 8 - suc (length si) = omega arith in
            (whole.0, whole.1 ∙ ap (λ (k : ℕ). old / 2 ^ k) one)

        read_on : Reading cells false address burst (suc (length si)) so (Read address burst (length si + 1) old out)
        read_on =
            record { byte = old; out = out; stands = ap (λ (n : ℕ). Read address burst n old out) (add-one (length si)); so_far = (λ z. absurd (omega arith), λ _ less. later less) }

        fall_read : FallAt (ReadFrom address burst) si so s (Read address burst (length si) old out)
        fall_read =
            record {
              tracks =
                  bit_tracks (ReadFrom address burst) (λ _. f) (λ last. cond last (after_read address burst out) (Read address burst (length si + 1) old out)) (λ _. is_held_lem) (λ _. sound)
                  (after_read_follows cells address burst (spelt (s ∷ si)) out) read_on (eqb (length si) 7) refl;
              acts = nothing (eqb (length si) 7);
            }

  fall : (next : Next) (si so : List ℕ) (ph : Phase) → Tracks (notes_of true true next si so) (part f true true ph) → (s : ℕ) → FallAt next si so s ph
  fall AHeader si so ph t s = subst (FallAt AHeader si so s) (sym t.phase) (fall_header si so t.few t.held t.sound s)
  fall (WriteTo address burst) si so ph t s =
      subst (FallAt (WriteTo address burst) si so s) (sym t.phase) (fall_write si so t.few t.held t.sound s address burst)
  fall (ReadFrom address burst) si so ph t s =
      let r = t.phase in
      subst (FallAt (ReadFrom address burst) si so s) (sym r.stands) (fall_read si so t.few t.held t.sound s address burst r.byte r.out r.so_far)
  fall Unheard si so ph t s = subst (FallAt Unheard si so s) (sym t.phase) (fall_deaf si so t.few t.held t.sound s)

  -- every move, by levels that it may come of
  by_levels : (levels : ℕ) (c k : Bool) (next : Next) (si so : List ℕ) (ph : Phase) → Tracks (notes_of c k next si so) (part f c k ph) → (move : Move) → Tells c k levels move → StepBy mode (notes_of c k next si so) (part f c k ph) move
  by_levels levels c k next si so ph t (Err why) h = record { tracks = t; acts = λ _. refl }
  by_levels levels c k next si so ph t (Ok Still) h = record { tracks = t; acts = λ _. refl }
  by_levels levels c k next si so ph t (Ok CeRises) h = ce_rises mode (notes_of c k next si so) (part f c k ph) t h.0
  by_levels levels c k next si so ph t (Ok CeFalls) h = ce_falls mode (notes_of c k next si so) (part f c k ph) t h.0
  by_levels levels false k next si so ph t (Ok SclkRises) h = low k true next si so ph t 0
  by_levels levels true true next si so ph t (Ok SclkRises) h = never (sym h.0)
  by_levels levels true false next si so ph t (Ok SclkRises) h = rise next si so ph t
  by_levels levels false k next si so ph t (Ok (SclkFalls s)) h = low k false next si so ph t s
  by_levels levels true true next si so ph t (Ok (SclkFalls s)) h = fall next si so ph t s
  by_levels levels true false next si so ph t (Ok (SclkFalls s)) h = never h.0

module _ (e : Notes) (p : PartState) (t : Tracks e p) where
  -- the part, with its levels as they are noted
  pub is_noted : p ≡ part p.file e.ce e.sclk p.phase
  is_noted = ap₂ (λ (c k : Bool). part p.file c k p.phase) t.ce t.sclk

  pub noted_tracks : Tracks e (part p.file e.ce e.sclk p.phase)
  noted_tracks = record { ce = refl; sclk = refl; held = t.held; few = t.few; sound = t.sound; phase = t.phase }

  -- what new levels do is the same move by his notes and by the part
  pub same_move : (levels : ℕ) → move_of p.ce p.sclk levels ≡ move_heard e levels
  same_move levels = ap₂ (λ (c k : Bool). move_of c k levels) t.ce t.sclk

  -- every pins call
  pub pins_step : (mode : HourMode) (levels : ℕ) → Step mode e p (move_heard e levels) (move_of p.ce p.sclk levels)
  pins_step mode levels =
      let heard : Move = move_heard e levels in
      subst (Step mode e p heard) (sym (same_move levels))
      (subst (λ (q : PartState). Step mode e q heard heard) (sym is_noted)
      (by_levels mode p.file levels e.ce e.sclk e.next e.si e.so p.phase noted_tracks heard (tells e.ce e.sclk levels)))
