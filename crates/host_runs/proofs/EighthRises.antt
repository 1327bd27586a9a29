-- Where a session's read gives a register out, bit by bit: the eighth rise of its byte among the levels.
use Rattle.std.proofs.Common.{◌≡◌, ℕ, zero, suc, ◌+◌, ◌*◌, ◌%◌, ◌<◌, ◌≤◌, Bool, true, false, cond, List, [], ◌∷◌, ◌++◌, get_or, Ok, Err, Result, sym, refl, ap, ◌∙◌, subst, append_assoc, arith, lit<}
use Rattle.std.proofs.lemmas.Bool.{le-ltb}
use Rattle.std.proofs.lemmas.List.{append-nil}
use Rattle.refusals.specs.declared.Refusal.{Refusal}
use Rattle.refusals.specs.declared.Refusal.TheVariants.{NoSuchCell}
use Rattle.serial_transfer.specs.declared.phase.SerialOut.{SerialOut}
use Rattle.serial_transfer.specs.declared.phase.SerialOut.TheVariants.{Off}
use Rattle.serial_transfer.specs.declared.phase.Phase.TheVariants.{Read}
use Rattle.serial_transfer.specs.Levels.{bit_at, level_out}
use Rattle.serial_transfer.specs.Rules.{format_coded, data_at}
use Rattle.serial_transfer.proofs.Wholes.{halves}
use Rattle.rx5c_registers.specs.File.{FileState, registers}
use Rattle.rx5c348a.specs.Part.{PartState}
use Rattle.rx5c348a.specs.Pins.{pins_part}
use Rattle.host_wires.specs.Record.{pin_record, wired}
use Rattle.host_wires.specs.Laws.{ready_in}
use Rattle.host_wires.proofs.Wholes.{header_in}
use Rattle.host_sessions.specs.Sessions.{header_for}
use Rattle.host_sessions.specs.Laws.{awaiting}
use Rattle.host_sessions.specs.Driven.{all_driven, byte_levels, clock_levels, read_levels, transfer_levels, levels_of_read, levels_of_burst_read}
use Rattle.host_sessions.proofs.DrivenLaws.{driven_append, byte_driven}

-- among levels on a part with these registers, the eighth rise of a register's byte: seven of its bits are over by then
pub record Eighth (f : FileState) (p : PartState) (levels : List ℕ) (register : ℕ) : Type 0 where
  pub front : List ℕ
  pub rest : List ℕ
  pub cut : levels ≡ front ++ (6 ∷ rest)
  pub burst : Bool
  pub out : SerialOut
  pub there : all_driven front p ≡ ready_in f (Read register burst 7 (get_or (registers f) register 0) out)

-- the same after levels before
after : (f : FileState) (p q : PartState) (before levels : List ℕ) (register : ℕ) → all_driven before p ≡ q → Eighth f q levels register → Eighth f p (before ++ levels) register
after f p q before levels register e r =
    record {
      front = before ++ r.front;
      rest = r.rest;
      cut = ap (λ (l : List ℕ). before ++ l) r.cut ∙ sym (append_assoc before r.front (6 ∷ r.rest));
      burst = r.burst;
      out = r.out;
      there = driven_append before r.front p ∙ ap (all_driven r.front) e ∙ r.there;
    }

module _ (f : FileState) where
  -- the byte that comes first
  first : (address : ℕ) (burst : Bool) (old : ℕ) (out : SerialOut) (levels : List ℕ) → Eighth f (ready_in f (Read address burst 0 old out)) (clock_levels 8 ++ levels) address
  unfolding all_driven clock_levels pins_part
  first address burst old out levels =
      record {
        front = clock_levels 7;
        rest = 4 ∷ levels;
        cut = refl;
        burst = burst;
        out = level_out (bit_at (get_or (registers f) address 0) 1);
        there = refl;
      }

  -- a whole byte of a burst
  over : (address old : ℕ) (out : SerialOut) → all_driven (clock_levels 8) (ready_in f (Read address true 0 old out)) ≡ ready_in f (Read ((address + 1) % 16) true 0 0 (level_out (bit_at (get_or (registers f) address 0) 0)))
  unfolding all_driven clock_levels pins_part
  over address old out = refl

  in_turn : (n place address old : ℕ) (out : SerialOut) → place < n → Eighth f (ready_in f (Read (address % 16) true 0 old out)) (read_levels n) ((address + place) % 16)
  unfolding read_levels
  in_turn zero place address old out h = absurd (omega arith)
  in_turn (suc n) zero address old out h =
      let here : address % 16 ≡ (address + 0) % 16 = omega arith in
      subst (Eighth f (ready_in f (Read (address % 16) true 0 old out)) (clock_levels 8 ++ read_levels n)) here
      (first (address % 16) true old out (read_levels n))
  in_turn (suc n) (suc place) address old out h =
      let next : SerialOut = level_out (bit_at (get_or (registers f) (address % 16) 0) 0) in
      let around : (address % 16 + 1) % 16 ≡ (address + 1) % 16 = omega arith in
      let here : (address + 1 + place) % 16 ≡ (address + suc place) % 16 = ap (λ (a : ℕ). a % 16) (omega arith) in
      subst (Eighth f (ready_in f (Read (address % 16) true 0 old out)) (clock_levels 8 ++ read_levels n)) here
      (after f (ready_in f (Read (address % 16) true 0 old out)) (ready_in f (Read ((address + 1) % 16) true 0 0 next)) (clock_levels 8) (read_levels n) ((address + 1 + place) % 16)
      (over (address % 16) old out ∙ ap (λ (a : ℕ). ready_in f (Read a true 0 0 next)) around)
      (in_turn n place (address + 1) 0 next (omega arith)))

  -- a header that is admitted, and what it asks for
  admitted : (address format : ℕ) → address ≤ 15 → header_for (awaiting f) address format ≡ Ok (16 * address + format)
  admitted address format few =
      ap (λ (b : Bool). cond b (Err NoSuchCell) (Ok (16 * address + format))) (le-ltb 15 address few)

  asked : (address format : ℕ) → address ≤ 15 → format < 16 → all_driven (byte_levels (16 * address + format)) (awaiting f) ≡ ready_in f (data_at address (format_coded format))
  asked address format few coded =
      let header : ℕ = 16 * address + format in
      sym (byte_driven header (wired (pin_record true false false) (awaiting f)))
      ∙ header_in f header (pin_record true false false) (omega arith)
      ∙ ap (ready_in f) (halves header address format coded refl)

  transferred : (address format : ℕ) (following : List ℕ) → address ≤ 15 → transfer_levels (header_for (awaiting f) address format) following ≡ byte_levels (16 * address + format) ++ following
  transferred address format following few =
      ap (λ (r : Result ℕ Refusal). transfer_levels r following) (admitted address format few)

  read_here : (address : ℕ) → address ≤ 15 → Eighth f (awaiting f) (levels_of_read address (awaiting f)) address
  read_here address few =
      subst (λ (l : List ℕ). Eighth f (awaiting f) l address) (sym (transferred address 12 (clock_levels 8) few))
      (after f (awaiting f) (ready_in f (Read address false 0 0 Off)) (byte_levels (16 * address + 12)) (clock_levels 8) address
      (asked address 12 few (lit< tt)) (subst (λ (l : List ℕ). Eighth f (ready_in f (Read address false 0 0 Off)) l address) (append-nil (clock_levels 8)) (first address false 0 Off [])))

  burst_here : (address n place : ℕ) → address ≤ 15 → place < n → Eighth f (awaiting f) (levels_of_burst_read address n (awaiting f)) ((address + place) % 16)
  burst_here address n place few h =
      let same : address % 16 ≡ address = omega arith in
      subst (λ (l : List ℕ). Eighth f (awaiting f) l ((address + place) % 16)) (sym (transferred address 4 (read_levels n) few))
      (after f (awaiting f) (ready_in f (Read (address % 16) true 0 0 Off)) (byte_levels (16 * address + 4)) (read_levels n) ((address + place) % 16)
      (asked address 4 few (lit< tt) ∙ ap (λ (a : ℕ). ready_in f (Read a true 0 0 Off)) (sym same)) (in_turn n place address 0 Off h))

-- a single read, and each place of a burst read
pub read_eighth : (p : PartState) (address : ℕ) → address ≤ 15 → p ≡ awaiting p.file → Eighth p.file p (levels_of_read address p) address
read_eighth p address few awaits =
    subst (λ (q : PartState). Eighth p.file q (levels_of_read address q) address) (sym awaits) (read_here p.file address few)

pub burst_eighth : (p : PartState) (address n place : ℕ) → address ≤ 15 → p ≡ awaiting p.file → place < n → Eighth p.file p (levels_of_burst_read address n p) ((address + place) % 16)
burst_eighth p address n place few awaits h =
    subst (λ (q : PartState). Eighth p.file q (levels_of_burst_read address n q) ((address + place) % 16)) (sym awaits) (burst_here p.file address n place few h)
