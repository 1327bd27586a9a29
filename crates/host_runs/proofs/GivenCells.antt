-- What a session's call gives its host is the register that stands there, and is given out among the call's levels.
use Rattle.std.proofs.Common.{◌≡◌, ℕ, zero, suc, ◌+◌, ◌%◌, ◌<◌, min, Bool, true, false, ◌&&◌, not, eqb, ltb, List, [], ◌∷◌, ◌++◌, map, length, get_or, take, drop, Some, None, Option, slice_get, Ok, Err, Result, inl, inr, sym, refl, ap, ◌∙◌, subst, ap₂, arith, eqb-true, ltb-true, ltb-false}
use Rattle.refusals.specs.declared.Refusal.{Refusal}
use Rattle.refusals.specs.declared.Refusal.TheVariants.{NoHeaderAwaited}
use Rattle.serial_transfer.specs.declared.phase.Phase.{Phase}
use Rattle.serial_transfer.specs.declared.phase.Phase.TheVariants.{Header}
use Rattle.serial_transfer.specs.Rules.{awaits}
use Rattle.rx5c_registers.specs.File.{FileState, registers}
use Rattle.rx5c_registers.proofs.Rows.{lower_register}
use Rattle.rx5c348a.specs.Part.{PartState}
use Rattle.rx5c348a.specs.Pins.{awaits_header}
use Rattle.rx5c348a_runs.specs.declared.call.WireCall.TheVariants.{Pins}
use Rattle.rx5c348a_runs.specs.Onlooker.{Next, AHeader, WriteTo, ReadFrom, Unheard, Notes, spelt}
use Rattle.rx5c348a_runs.proofs.Tracking.{Tracks, Follows, PhaseBy, part, never}
use Rattle.host_wires.specs.declared.record.PinRecord.{PinRecord}
use Rattle.host_wires.specs.Record.{Wired, wired}
use Rattle.host_wires.specs.Laws.{byte_at, registers_in_turn}
use Rattle.host_sessions.specs.Sessions.{reading, burst_reading, single_read, burst_read}
use Rattle.host_sessions.specs.Laws.{awaiting, ReadIsWhatStands, BurstIsWhatStands}
use Rattle.host_sessions.specs.Driven.{levels_of_read, levels_of_burst_read}
use Rattle.host_sessions.proofs.SessionLaws.{reads, burst_reads}
use Rattle.host_runs.specs.declared.call.SessionCall.{SessionCall}
use Rattle.host_runs.specs.declared.call.SessionCall.TheVariants.{Read, BurstRead}
use Rattle.host_runs.specs.declared.call.HostCall.{HostCall}
use Rattle.host_runs.specs.declared.call.HostCall.TheVariants.{Wire, Session}
use Rattle.host_runs.specs.declared.call.HostAnswer.TheVariants.{Byte, Moved}
use Rattle.host_runs.specs.Hosts.{byte_answered, Seat, IdleSeat, OpenSeat, SpentSeat, session_step, HostState, seat_call, session_call, work_one}
use Rattle.host_runs.specs.Levels.{session_levels, seat_levels, wire_calls_of}
use Rattle.host_runs.specs.Reads.{GivesByte, HostIsGiven}
use Rattle.host_runs.proofs.Wires.{front}
use Rattle.host_runs.proofs.EighthRises.{Eighth, read_eighth, burst_eighth}

-- a part that awaits a header, as the onlooker's notes have it, has no bit of one
fresh : (row : List ℕ) (high : Bool) (next : Next) (si so : List ℕ) (phase : Phase) → Follows row high next si so phase → awaits phase ≡ true → phase ≡ Header 0 0
unfolding spelt
fresh row high AHeader [] so phase f a = f
fresh row high AHeader (bit ∷ si) so phase f a =
    let none : eqb (length (bit ∷ si)) 0 ≡ true = sym (ap awaits f) ∙ a in
    let empty : length (bit ∷ si) ≡ 0 = eqb-true _ _ none in
    absurd (omega arith)
fresh row high (WriteTo address burst) si so phase f a = never (sym (ap awaits f) ∙ a)
fresh row high (ReadFrom address burst) si so phase f a = never (sym (ap awaits f.stands) ∙ a)
fresh row high Unheard si so phase f a = never (sym (ap awaits f) ∙ a)

-- the parts of its test
awaits_by : (ce sclk : Bool) (header : Bool) → ((ce && header) && not sclk) ≡ true → (ce ≡ true) × (sclk ≡ false) × (header ≡ true)
awaits_by true true true e = never e
awaits_by true true false e = never e
awaits_by true false true e = (refl, refl, refl)
awaits_by true false false e = never e
awaits_by false true true e = never e
awaits_by false true false e = never e
awaits_by false false true e = never e
awaits_by false false false e = never e

-- where a header is awaited
is_awaiting : (e : Notes) (p : PartState) → Tracks e p → awaits_header p ≡ true → p ≡ awaiting p.file
is_awaiting e p t h =
    let w = awaits_by p.ce p.sclk (awaits p.phase) h in
    let follows : Follows p.file.core.map.cells e.sclk e.next e.si e.so p.phase =
    subst (λ (b : Bool). PhaseBy b p.file.core.map.cells e.sclk e.next e.si e.so p.phase) (sym t.ce ∙ w.0) t.phase in
    ap₂ (λ (ce sclk : Bool). part p.file ce sclk p.phase) w.0 w.1
    ∙ ap (part p.file true false) (fresh p.file.core.map.cells e.sclk e.next e.si e.so p.phase follows w.2)

-- a register of the calendar is the cell
cell_stands : (e : Notes) (p : PartState) → Tracks e p → (cell : ℕ) → cell < 7 → byte_at p.file cell ≡ get_or p.file.core.map.cells cell 0
cell_stands e p t cell less =
    let small = t.sound.bytes cell in
    let row : get_or (registers p.file) cell 0 ≡ get_or p.file.core.map.cells cell 0 = lower_register p.file cell t.sound.seven less in
    omega arith

-- what a call gives is the cell, the part is selected, and the byte has an eighth rise among the levels
pub record Stands (p : PartState) (levels : List ℕ) (cell byte : ℕ) : Type 0 where
  pub selected : p.ce ≡ true
  pub is_cell : byte ≡ get_or p.file.core.map.cells cell 0
  pub eighth : Eighth p.file p levels cell

module _ (e : Notes) (p : PartState) (t : Tracks e p) (cell : ℕ) (less : cell < 7) where
  selected : awaits_header p ≡ true → p.ce ≡ true
  selected h = ap (λ (q : PartState). q.ce) (is_awaiting e p t h)

  -- a single read
  read_gives : (pins : PinRecord) (byte : ℕ) (answer : Result ℕ Refusal) (header : Bool) → awaits_header p ≡ header → answer ≡ (reading cell (wired pins p)).0 → answer ≡ Ok byte → Stands p (levels_of_read cell p) cell byte
  read_gives pins byte answer header h is ok =
      let w : Wired = wired pins p in
      let law = reads cell w (reading cell w).1 answer (ap (λ (a : Result ℕ Refusal). (a, (reading cell w).1)) is) in
      by header h law
    where
      by : (header : Bool) → awaits_header p ≡ header → ReadIsWhatStands cell p answer (reading cell (wired pins p)).1.part → Stands p (levels_of_read cell p) cell byte
      by true h law =
          let stood : Ok byte ≡ Ok (byte_at p.file cell) = sym ok ∙ (law.stood p.file (omega arith) (is_awaiting e p t h)).0 in
          let is : byte ≡ byte_at p.file cell = cc in
          record { selected = selected h; is_cell = is ∙ cell_stands e p t cell less; eighth = read_eighth p cell (omega arith) (is_awaiting e p t h) }
      by false h law =
          let refused : Ok byte ≡ Err NoHeaderAwaited = sym ok ∙ (law.no_header (omega arith) h).0 in
          cc

  single : (pins : PinRecord) (byte : ℕ) → byte_answered (single_read cell (wired pins p)).0 ≡ Ok (Byte byte) → Stands p (levels_of_read cell p) cell byte
  unfolding single_read
  single pins byte h = by (reading cell (wired pins p)).0 refl h
    where
      by : (answer : Result ℕ Refusal) → answer ≡ (reading cell (wired pins p)).0 → byte_answered answer ≡ Ok (Byte byte) → Stands p (levels_of_read cell p) cell byte
      by (Ok b) is h = read_gives pins byte (Ok b) (awaits_header p) refl is cc
      by (Err why) is h = cc

  -- a burst read
  in_turn : (f : FileState) (address n i : ℕ) (rest : List ℕ) → i < n → get_or (registers_in_turn f address n ++ rest) i 0 ≡ byte_at f ((address + i) % 16)
  unfolding registers_in_turn
  in_turn f address zero i rest h = absurd (omega arith)
  in_turn f address (suc n) zero rest h = ap (λ (a : ℕ). byte_at f (a % 16)) (omega arith)
  in_turn f address (suc n) (suc i) rest h =
      in_turn f (address + 1) n i rest (omega arith) ∙ ap (λ (a : ℕ). byte_at f (a % 16)) (omega arith)

  module _ (pins : PinRecord) (address : ℕ) (buffer rest : List ℕ) (moved place : ℕ) (is_moved : place < moved) (here : cell ≡ (address + place) % 16) where
    abbrev w : Wired
    w = wired pins p

    abbrev filled : List ℕ
    filled = (burst_reading address buffer w).1

    burst_by : (over header : Bool) → ltb 15 address ≡ over → awaits_header p ≡ header → BurstIsWhatStands address buffer p moved filled (burst_reading address buffer w).2.part → Stands p (levels_of_burst_read address (length buffer) p) cell (get_or (filled ++ rest) place 0)
    burst_by true header o h law =
        let none = (law.no_register (ltb-true _ _ o)).0 in
        absurd (omega arith)
    burst_by false false o h law =
        let none = (law.no_header h).0 in
        absurd (omega arith)
    burst_by false true o h law =
        let awaits = is_awaiting e p t h in
        let stood = law.stood p.file (ltb-false _ _ o) awaits in
        let among : place < length buffer = let all = stood.0 in omega arith in
        record {
          selected = selected h;
          is_cell =
              ap (λ (bytes : List ℕ). get_or (bytes ++ rest) place 0) stood.1 ∙ in_turn p.file address moved place rest is_moved
              ∙ ap (byte_at p.file) (sym here)
              ∙ cell_stands e p t cell less;
          eighth =
              subst (Eighth p.file p (levels_of_burst_read address (length buffer) p)) (sym here)
              (burst_eighth p address (length buffer) place (ltb-false _ _ o) awaits among);
        }

    burst : moved ≡ (burst_reading address buffer w).0 → Stands p (levels_of_burst_read address (length buffer) p) cell (get_or (filled ++ rest) place 0)
    burst is =
        burst_by (ltb 15 address) (awaits_header p) refl refl
        (burst_reads address buffer w (burst_reading address buffer w).2 moved filled
        (ap (λ (m : ℕ). (m, filled, (burst_reading address buffer w).2)) is))

  -- a call of a session
  answered : (seat : Seat) (buffer : List ℕ) (byte : ℕ) → (session_step seat p buffer (Read cell)).answer ≡ Ok (Byte byte) → Stands p (session_levels seat p (length buffer) (Read cell)) cell byte
  answered (IdleSeat pins) buffer byte h = cc
  answered (OpenSeat pins) buffer byte h = single pins byte h
  answered (SpentSeat pins) buffer byte h = cc

  filled_in : (seat : Seat) (buffer : List ℕ) (address count moved place : ℕ) → (session_step seat p buffer (BurstRead address count)).answer ≡ Ok (Moved moved) → place < moved → cell ≡ (address + place) % 16 → Stands p (session_levels seat p (length buffer) (BurstRead address count)) cell (get_or (session_step seat p buffer (BurstRead address count)).buffer place 0)
  unfolding burst_read
  filled_in (IdleSeat pins) buffer address count moved place h among here = cc
  filled_in (OpenSeat pins) buffer address count moved place h among here =
      let n : ℕ = min count (length buffer) in
      let left : List ℕ = drop n buffer in
      let given = burst pins address (take n buffer) left moved place among here cc in
      subst (λ (k : ℕ). Stands p (levels_of_burst_read address k p) cell (get_or ((burst_reading address (take n buffer) (wired pins p)).1 ++ left) place 0)) (front p buffer count) given
  filled_in (SpentSeat pins) buffer address count moved place h among here = cc

  pub gives : (seat : Seat) (buffer : List ℕ) (call : SessionCall) (byte : ℕ) → GivesByte call (session_step seat p buffer call).answer (session_step seat p buffer call).buffer cell byte → Stands p (session_levels seat p (length buffer) call) cell byte
  gives seat buffer call byte (inl r) =
      subst (λ (c : SessionCall). Stands p (session_levels seat p (length buffer) c) cell byte) (sym r.reads)
      (answered seat buffer byte (ap (λ (c : SessionCall). (session_step seat p buffer c).answer) (sym r.reads) ∙ r.answers))
  gives seat buffer call byte (inr r) =
      let stands =
      filled_in seat buffer r.address r.count r.moved r.place (ap (λ (c : SessionCall). (session_step seat p buffer c).answer) (sym r.reads) ∙ r.answers) r.is_moved r.of_register in
      let is : byte ≡ get_or (session_step seat p buffer (BurstRead r.address r.count)).buffer r.place 0 =
      r.in_buffer ∙ ap (λ (c : SessionCall). get_or (session_step seat p buffer c).buffer r.place 0) r.reads in
      record {
        selected = stands.selected;
        is_cell = is ∙ stands.is_cell;
        eighth = subst (λ (c : SessionCall). Eighth p.file p (session_levels seat p (length buffer) c) cell) (sym r.reads) stands.eighth;
      }

-- the same of a call of hosts, as calls on the wires
pub record HostStands (s : HostState) (call : HostCall) (cell byte : ℕ) : Type 0 where
  pub levels : List ℕ
  pub driven : wire_calls_of s call ≡ map Pins levels
  pub stands : Stands s.part levels cell byte

pub host_gives : (e : Notes) (s : HostState) → Tracks e s.part → (cell : ℕ) → cell < 7
    → (call : HostCall) (byte : ℕ) → HostIsGiven call (work_one s call) cell byte
    → HostStands s call cell byte
unfolding work_one session_call
host_gives e s t cell less (Wire call) byte g = absurd g
host_gives e s t cell less (Session number call) byte g =
    record {
      levels = seat_levels s call (slice_get s.sessions number);
      driven = refl;
      stands = by (slice_get s.sessions number) g;
    }
  where
    by : (session : Option Seat)
        → GivesByte call (seat_call s number call session).0 (seat_call s number call session).1.buffer cell byte
        → Stands s.part (seat_levels s call session) cell byte
    by None (inl r) = let said = r.answers in cc
    by None (inr r) = let said = r.answers in cc
    by (Some session) given = gives e s.part t cell less session s.buffer call byte given
