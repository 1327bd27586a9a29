-- What a host can rely on, from the definitions of the calls.
use Rattle.std.proofs.Common.{◌≡◌, ℕ, ◌+◌, ◌*◌, ◌%◌, ◌<◌, ◌≤◌, Bool, true, false, cond, ltb, List, length, get_or, Ok, Err, Result, sym, refl, ap, ◌∙◌, subst, arith, lit<}
use Rattle.std.proofs.lemmas.Bool.{true≢false, false≢true, lt-ltb, le-ltb}
use Rattle.refusals.specs.declared.Refusal.{Refusal}
use Rattle.refusals.specs.declared.Refusal.TheVariants.{NoSuchCell, NoHeaderAwaited}
use Rattle.clock_core.specs.Core.{Accepted}
use Rattle.serial_transfer.specs.declared.phase.SerialOut.TheVariants.{Off}
use Rattle.serial_transfer.specs.declared.phase.Phase.{Phase}
use Rattle.serial_transfer.specs.declared.phase.Phase.TheVariants.{Write, Read}
use Rattle.serial_transfer.specs.Rules.{format_coded, data_at, fallen}
use Rattle.rx5c_registers.specs.File.{FileState, written}
use Rattle.rx5c_registers.specs.Standing.{StandsIn}
use Rattle.rx5c_registers.specs.Clock.{held}
use Rattle.rx5c_registers.proofs.Standing.{written_stands}
use Rattle.rx5c348a.specs.Part.{PartState}
use Rattle.rx5c348a.specs.Pins.{awaits_header, with_landing, pins_part}
use Rattle.host_wires.specs.declared.record.PinRecord.{PinRecord}
use Rattle.host_wires.specs.Record.{Wired, wired, pin_record}
use Rattle.host_wires.specs.Shifting.{byte_in, byte_out, bytes_in, bytes_out}
use Rattle.host_wires.specs.Laws.{ready_in, byte_at, written_in_turn, registers_in_turn}
use Rattle.serial_transfer.proofs.Wholes.{halves}
use Rattle.host_wires.proofs.Wholes.{header_in, data_in, register_out}
use Rattle.host_wires.proofs.Turns.{all_arrive, all_stand_there}
use Rattle.host_sessions.specs.Sessions.{accepted, closing, opening, header_for, ended, read_after, reading, write_after, writing, burst_read_after, burst_reading, burst_write_after, burst_writing}
use Rattle.host_sessions.specs.Laws.{awaiting, Opens, Closes, ReadIsWhatStands, WrittenArrives, BurstIsWhatStands, BurstArrives}

abbrev part_of : FileState → Bool → Bool → Phase → PartState
part_of f ce sclk phase = record { file = f; ce = ce; sclk = sclk; phase = phase }

-- opening, by the levels that CE and SCLK had
opens_from : (f : FileState) (ce sclk : Bool) (phase : Phase) (pins : PinRecord) → Opens (part_of f ce sclk phase) (opening (wired pins (part_of f ce sclk phase))).part
unfolding pins_part
opens_from f true true phase pins =
    record { awaits = refl; holds = λ u. absurd (true≢false u.low); lets_go = λ c s. absurd (true≢false s); falls = λ c s. refl }
opens_from f true false phase pins =
    record { awaits = refl; holds = λ u. absurd (true≢false u.low); lets_go = λ c s. refl; falls = λ c s. absurd (false≢true s) }
opens_from f false true phase pins =
    record {
      awaits = refl;
      holds = λ u. ap (λ (q : Phase). held (with_landing f (fallen q 0).0)) u.idle;
      lets_go = λ c s. absurd (false≢true c);
      falls = λ c s. absurd (false≢true c);
    }
opens_from f false false phase pins =
    record { awaits = refl; holds = λ u. refl; lets_go = λ c s. absurd (false≢true c); falls = λ c s. absurd (false≢true c) }

pub opens : (w v : Wired) → v ≡ opening w → Opens w.part v.part
opens w v e =
    let P : Wired → Type 0 = λ u. Opens w.part u.part in
    subst P (sym e) (opens_from w.part.file w.part.ce w.part.sclk w.part.phase w.pins)

closes_from : (f : FileState) (ce sclk : Bool) (phase : Phase) (pins : PinRecord) → Closes (part_of f ce sclk phase) (closing (wired pins (part_of f ce sclk phase))).part
unfolding pins_part
closes_from f true true phase pins =
    record { lets_go = λ c s. absurd (true≢false s); falls = λ c s. refl; rests = λ u. absurd (true≢false u.low) }
closes_from f true false phase pins =
    record { lets_go = λ c s. refl; falls = λ c s. absurd (false≢true s); rests = λ u. absurd (true≢false u.low) }
closes_from f false true phase pins =
    record {
      lets_go = λ c s. absurd (false≢true c);
      falls = λ c s. absurd (false≢true c);
      rests = λ u. ap (λ (q : Phase). part_of (with_landing f (fallen q 0).0) false false (fallen q 0).1) u.idle;
    }
closes_from f false false phase pins =
    record { lets_go = λ c s. absurd (false≢true c); falls = λ c s. absurd (false≢true c); rests = λ u. ap (part_of f false false) u.idle }

pub closes : (w v : Wired) → v ≡ closing w → Closes w.part v.part
closes w v e =
    let P : Wired → Type 0 = λ u. Closes w.part u.part in
    subst P (sym e) (closes_from w.part.file w.part.ce w.part.sclk w.part.phase w.pins)

-- the header of a transfer, where one is admitted and where not
admitted : (f : FileState) (address format : ℕ) → address ≤ 15 → header_for (awaiting f) address format ≡ Ok (16 * address + format)
admitted f address format few =
    ap (λ (b : Bool). cond b (Err NoSuchCell) (Ok (16 * address + format))) (le-ltb 15 address few)

over : (p : PartState) (address format : ℕ) → 15 < address → header_for p address format ≡ Err NoSuchCell
over p address format many =
    ap (λ (b : Bool). cond b (Err NoSuchCell) (cond (awaits_header p) (Ok (16 * address + format)) (Err NoHeaderAwaited))) (lt-ltb 15 address many)

unawaited : (p : PartState) (address format : ℕ) → awaits_header p ≡ false → header_for p address format ≡ Err (cond (ltb 15 address) NoSuchCell NoHeaderAwaited)
unawaited p address format none =
    ap (λ (b : Bool). cond (ltb 15 address) (Err NoSuchCell) (cond b (Ok (16 * address + format)) (Err NoHeaderAwaited))) none
    ∙ either (ltb 15 address)
  where
    either : (b : Bool) → ◌≡◌ {A = Result ℕ Refusal} (cond b (Err NoSuchCell) (Err NoHeaderAwaited)) (Err (cond b NoSuchCell NoHeaderAwaited))
    either true = refl
    either false = refl

not_over : (address : ℕ) → address ≤ 15 → ◌≡◌ {A = Refusal} (cond (ltb 15 address) NoSuchCell NoHeaderAwaited) NoHeaderAwaited
not_over address few = ap (λ (b : Bool). cond b NoSuchCell NoHeaderAwaited) (le-ltb 15 address few)

-- a header that arrives
heard : (f : FileState) (pins : PinRecord) (address format : ℕ) → address ≤ 15 → format < 16 → (byte_in (16 * address + format) (wired pins (awaiting f))).part ≡ ready_in f (data_at address (format_coded format))
heard f pins address format few coded =
    header_in f (16 * address + format) pins (omega arith) ∙ ap (ready_in f) (halves (16 * address + format) address format coded refl)

pub reads : (address : ℕ) (w v : Wired) (answer : Result ℕ Refusal) → ◌≡◌ {A = Result ℕ Refusal × Wired} (answer, v) (reading address w) → ReadIsWhatStands address w.part answer v.part
reads address w v answer e =
    record {
      stood = λ f few awaits.
          let all = e ∙ ap (λ (p : PartState). reading address (wired w.pins p)) awaits ∙ served f few in
          (ap (λ (s : Result ℕ Refusal × Wired). s.0) all, ap (λ (s : Result ℕ Refusal × Wired). s.1.part) all ∙ sym awaits);
      no_register = λ many. refused (Err NoSuchCell) (over w.part address 12 many) NoSuchCell refl;
      no_header = λ few none. refused _ (unawaited w.part address 12 none) NoHeaderAwaited (ap Err (not_over address few));
    }
  where
    refused : (h : Result ℕ Refusal) → header_for w.part address 12 ≡ h → (why : Refusal) → h ≡ Err why → (answer ≡ Err why) × (v.part ≡ w.part)
    refused h is why also =
        let all : ◌≡◌ {A = Result ℕ Refusal × Wired} (answer, v) (Err why, ended w) = e ∙ ap (λ (r : Result ℕ Refusal). read_after r w) (is ∙ also) in
        (ap (λ (s : Result ℕ Refusal × Wired). s.0) all, ap (λ (s : Result ℕ Refusal × Wired). s.1.part) all)

    served : (f : FileState) → address ≤ 15 → ◌≡◌ {A = Result ℕ Refusal × Wired} (reading address (wired w.pins (awaiting f))) (Ok (byte_at f address), ended (wired (pin_record true false false) (awaiting f)))
    served f few =
        let u : Wired = wired w.pins (awaiting f) in
        let header : ℕ = 16 * address + 12 in
        ap (λ (r : Result ℕ Refusal). read_after r u) (admitted f address 12 few)
        ∙ ap (λ (p : PartState). let s : ℕ × Wired = byte_out (wired (byte_in header u).pins p) in (Ok s.0, ended s.1)) (heard f w.pins address 12 few (lit< tt))
        ∙ ap (λ (s : ℕ × Wired). (Ok s.0, ended s.1)) (register_out f address false 0 Off (byte_in header u).pins)

pub writes : (address byte : ℕ) (w v : Wired) (answer : Accepted) → byte < 256 → length w.part.file.core.map.cells ≡ 7 → length w.part.file.alarms ≡ 2 → ◌≡◌ {A = Accepted × Wired} (answer, v) (writing address byte w) → WrittenArrives address byte w.part answer v.part
writes address byte w v answer small seven two e =
    record {
      lands = arrived;
      stands = λ f few awaits.
          let cells : length f.core.map.cells ≡ 7 = sym (ap (λ (p : PartState). length p.file.core.map.cells) awaits) ∙ seven in
          let rows : length f.alarms ≡ 2 = sym (ap (λ (p : PartState). length p.file.alarms) awaits) ∙ two in
          subst (λ (p : PartState). StandsIn f address byte p.file) (sym (arrived f few awaits).1) (written_stands f address byte cells rows small);
      no_register = λ many. refused NoSuchCell (over w.part address 8 many);
      no_header = λ few none. refused NoHeaderAwaited (unawaited w.part address 8 none ∙ ap Err (not_over address few));
    }
  where
    refused : (why : Refusal) → header_for w.part address 8 ≡ Err why → (answer ≡ Err why) × (v.part ≡ w.part)
    refused why is =
        let all : ◌≡◌ {A = Accepted × Wired} (answer, v) (Err why, ended w) = e ∙ ap (λ (r : Result ℕ Refusal). write_after r byte w) is in
        (ap (λ (s : Accepted × Wired). s.0) all, ap (λ (s : Accepted × Wired). s.1.part) all)

    landed : (f : FileState) → address ≤ 15 → (byte_in byte (byte_in (16 * address + 8) (wired w.pins (awaiting f)))).part ≡ awaiting (written f address byte)
    landed f few =
        let u : Wired = byte_in (16 * address + 8) (wired w.pins (awaiting f)) in
        ap (λ (p : PartState). (byte_in byte (wired u.pins p)).part) (heard f w.pins address 8 few (lit< tt))
        ∙ data_in f byte address false u.pins small

    arrived : (f : FileState) → address ≤ 15 → w.part ≡ awaiting f → (answer ≡ accepted) × (v.part ≡ awaiting (written f address byte))
    arrived f few awaits =
        let all = e ∙ ap (λ (p : PartState). writing address byte (wired w.pins p)) awaits
        ∙ ap (λ (r : Result ℕ Refusal). write_after r byte (wired w.pins (awaiting f))) (admitted f address 8 few) in
        (ap (λ (s : Accepted × Wired). s.0) all, ap (λ (s : Accepted × Wired). s.1.part) all ∙ landed f few)

pub burst_reads : (address : ℕ) (buffer : List ℕ) (w v : Wired) (moved : ℕ) (filled : List ℕ) → ◌≡◌ {A = ℕ × List ℕ × Wired} (moved, filled, v) (burst_reading address buffer w) → BurstIsWhatStands address buffer w.part moved filled v.part
burst_reads address buffer w v moved filled e =
    record {
      stood = λ f few awaits.
          let all = e ∙ ap (λ (p : PartState). burst_reading address buffer (wired w.pins p)) awaits
          ∙ ap (λ (r : Result ℕ Refusal). burst_read_after r buffer (wired w.pins (awaiting f))) (admitted f address 4 few) in
          let count : moved ≡ length buffer = ap (λ (s : ℕ × List ℕ × Wired). s.0) all in (
            count,
            ap (λ (s : ℕ × List ℕ × Wired). s.1) all ∙ (given f few).0 ∙ ap (registers_in_turn f address) (sym count),
            ap (λ (s : ℕ × List ℕ × Wired). s.2.part.file) all ∙ (given f few).1,
          );
      no_register = λ many. refused NoSuchCell (over w.part address 4 many);
      no_header = λ none. refused (cond (ltb 15 address) NoSuchCell NoHeaderAwaited) (unawaited w.part address 4 none);
    }
  where
    refused : (why : Refusal) → header_for w.part address 4 ≡ Err why → (moved ≡ 0) × (filled ≡ buffer) × (v.part ≡ w.part)
    refused why is =
        let all : ◌≡◌ {A = ℕ × List ℕ × Wired} (moved, filled, v) (0, buffer, ended w) = e ∙ ap (λ (r : Result ℕ Refusal). burst_read_after r buffer w) is in
        (ap (λ (s : ℕ × List ℕ × Wired). s.0) all, ap (λ (s : ℕ × List ℕ × Wired). s.1) all, ap (λ (s : ℕ × List ℕ × Wired). s.2.part) all)

    given : (f : FileState) → address ≤ 15 → ((bytes_out (length buffer) (byte_in (16 * address + 4) (wired w.pins (awaiting f)))).0 ≡ registers_in_turn f address (length buffer)) × ((bytes_out (length buffer) (byte_in (16 * address + 4) (wired w.pins (awaiting f)))).1.part.file ≡ f)
    given f few =
        let n : ℕ = length buffer in
        let t : Wired = byte_in (16 * address + 4) (wired w.pins (awaiting f)) in
        let u : Wired = wired t.pins (ready_in f (Read address true 0 0 Off)) in
        let same : bytes_out n t ≡ bytes_out n u = ap (λ (p : PartState). bytes_out n (wired t.pins p)) (heard f w.pins address 4 few (lit< tt)) in
        let all = all_stand_there n u (bytes_out n u).1 (bytes_out n u).0 (omega arith) refl in (
          ap (λ (s : List ℕ × Wired). s.0) same ∙ all.stood address 0 Off (record { selected = refl; low = refl }) refl,
          ap (λ (s : List ℕ × Wired). s.1.part.file) same ∙ all.unchanged address 0 Off (record { selected = refl; low = refl }) refl,
        )

pub burst_writes : (address : ℕ) (bytes : List ℕ) (w v : Wired) (moved : ℕ) → ((i : ℕ) → get_or bytes i 0 < 256) → ◌≡◌ {A = ℕ × Wired} (moved, v) (burst_writing address bytes w) → BurstArrives address bytes w.part moved v.part
burst_writes address bytes w v moved small e =
    record {
      lands = λ f few awaits.
          let all = e ∙ ap (λ (p : PartState). burst_writing address bytes (wired w.pins p)) awaits
          ∙ ap (λ (r : Result ℕ Refusal). burst_write_after r bytes (wired w.pins (awaiting f))) (admitted f address 0 few) in
          let count : moved ≡ length bytes = ap (λ (s : ℕ × Wired). s.0) all in (
            count,
            ap (λ (s : ℕ × Wired). s.1.part) all ∙ landed f few
                ∙ ap (λ (n : ℕ). ready_in (written_in_turn f address bytes) (Write ((address + n) % 16) true 0 0)) (sym count),
          );
      no_register = λ many. refused NoSuchCell (over w.part address 0 many);
      no_header = λ none. refused (cond (ltb 15 address) NoSuchCell NoHeaderAwaited) (unawaited w.part address 0 none);
    }
  where
    refused : (why : Refusal) → header_for w.part address 0 ≡ Err why → (moved ≡ 0) × (v.part ≡ w.part)
    refused why is =
        let all : ◌≡◌ {A = ℕ × Wired} (moved, v) (0, ended w) = e ∙ ap (λ (r : Result ℕ Refusal). burst_write_after r bytes w) is in
        (ap (λ (s : ℕ × Wired). s.0) all, ap (λ (s : ℕ × Wired). s.1.part) all)

    landed : (f : FileState) → address ≤ 15 → (bytes_in bytes (byte_in (16 * address + 0) (wired w.pins (awaiting f)))).part ≡ ready_in (written_in_turn f address bytes) (Write ((address + length bytes) % 16) true 0 0)
    landed f few =
        let t : Wired = byte_in (16 * address + 0) (wired w.pins (awaiting f)) in
        let u : Wired = wired t.pins (ready_in f (Write address true 0 0)) in
        ap (λ (p : PartState). (bytes_in bytes (wired t.pins p)).part) (heard f w.pins address 0 few (lit< tt))
        ∙ all_arrive bytes u (bytes_in bytes u).part small (omega arith) refl address (record { selected = refl; low = refl }) refl
