-- Eight clocks make a byte, at the wires of a part.
use Rattle.std.proofs.Common.{◌≡◌, ℕ, zero, suc, ◌/◌, ◌%◌, ◌^◌, ◌<◌, Bool, true, false, eqb, List, [], ◌∷◌, map, length, get_or, Option, sym, refl, ap, ◌∙◌, subst, ap₂, div-one, arith}
use Rattle.serial_transfer.specs.declared.phase.SerialOut.{SerialOut}
use Rattle.serial_transfer.specs.declared.phase.Landing.{Landing}
use Rattle.serial_transfer.specs.declared.phase.Phase.{Phase}
use Rattle.serial_transfer.specs.declared.phase.Phase.TheVariants.{Header, Write, Read, Deaf}
use Rattle.serial_transfer.specs.Levels.{taken, bit_at, level_out}
use Rattle.serial_transfer.specs.Rules.{fresh_header, headed, after_write, after_read, header_taken, write_taken}
use Rattle.serial_transfer.specs.Bytes.{low_bits, bits_of, spelt}
use Rattle.serial_transfer.proofs.Shifts.{taken_more}
use Rattle.serial_transfer.proofs.Wholes.{halves, bits_spelt}
use Rattle.rx5c_registers.specs.File.{FileState, registers, written}
use Rattle.rx5c_registers.specs.Standing.{StandsIn}
use Rattle.rx5c_registers.proofs.Standing.{written_stands}
use Rattle.rx5c348a.specs.Part.{PartState}
use Rattle.rx5c348a.specs.Pins.{with_landing, pins_part}
use Rattle.host_wires.specs.declared.record.PinRecord.{PinRecord}
use Rattle.host_wires.specs.Record.{Wired, wired, pin_record}
use Rattle.host_wires.specs.Shifting.{bit_in, bit_set, low_levels, bits_in, byte_in, levels_out, byte_out}
use Rattle.host_wires.specs.Laws.{Ready, ready_in, Arrives, byte_at, StandsThere}

-- a level as a number
abbrev number : Bool → ℕ
number true = 1
number false = 0

-- the bits of a byte, gathered behind those that are in
unfoldable gather : ℕ → ℕ → ℕ → ℕ
gather gathered byte zero = gathered
gather gathered byte (suc n) = gather (taken gathered (number (bit_set byte n))) byte n

number_bit : (byte n : ℕ) → number (bit_set byte n) ≡ bit_at byte n
number_bit byte n = at (bit_at byte n) (omega arith)
  where
    at : (b : ℕ) → b < 2 → number (eqb b 1) ≡ b
    at zero h = refl
    at (suc zero) h = refl
    at (suc (suc b)) h = absurd (omega arith)

gathers : (byte n : ℕ) → byte < 256 → gather (byte / 2 ^ n) byte n ≡ byte
unfolding gather
gathers byte zero h = div-one byte
gathers byte (suc n) h =
    ap (λ (bit : ℕ). gather (taken (byte / 2 ^ suc n) bit) byte n) (number_bit byte n)
    ∙ ap (λ (g : ℕ). gather g byte n) (taken_more byte n h)
    ∙ gathers byte n h

gathers_all : (byte : ℕ) → byte < 256 → gather 0 byte 8 ≡ byte
gathers_all byte h =
    let none : 0 ≡ byte / 2 ^ 8 = omega arith in
    ap (λ (g : ℕ). gather g byte 8) none ∙ gathers byte 8 h

-- the registers and the phase once a byte may have landed
abbrev landed_in : FileState → Option Landing × Phase → PartState
landed_in f s = ready_in (with_landing f s.0) s.1

module _ (f : FileState) where
  -- one bit of a header, of a written byte, and to the deaf
  header_bit : (k g : ℕ) (pins : PinRecord) (si : Bool) → bit_in (wired pins (ready_in f (Header k g))) si ≡ wired (pin_record true false si) (ready_in f (header_taken k (taken g (number si))))
  unfolding pins_part
  header_bit k g pins true = refl
  header_bit k g pins false = refl

  write_bit : (address : ℕ) (burst : Bool) (k g : ℕ) (pins : PinRecord) (si : Bool) → bit_in (wired pins (ready_in f (Write address burst k g))) si ≡ wired (pin_record true false si) (landed_in f (write_taken address burst k (taken g (number si))))
  unfolding pins_part
  write_bit address burst k g pins true = refl
  write_bit address burst k g pins false = refl

  deaf_bit : (pins : PinRecord) (si : Bool) → bit_in (wired pins (ready_in f Deaf)) si ≡ wired (pin_record true false si) (ready_in f Deaf)
  unfolding pins_part
  deaf_bit pins true = refl
  deaf_bit pins false = refl

  module _ (a b c d e g h i : Bool) (pins : PinRecord) where
    abbrev all_bits : List Bool
    all_bits = a ∷ b ∷ c ∷ d ∷ e ∷ g ∷ h ∷ i ∷ []

    abbrev seven_gathered : ℕ
    seven_gathered =
        taken (taken (taken (taken (taken (taken (taken 0 (number a)) (number b)) (number c)) (number d)) (number e)) (number g)) (number h)

    header_eight : bits_in all_bits (wired pins (ready_in f fresh_header)) ≡ wired (pin_record true false i) (ready_in f (headed (taken seven_gathered (number i))))
    unfolding bits_in
    header_eight =
        ap (bits_in (b ∷ c ∷ d ∷ e ∷ g ∷ h ∷ i ∷ [])) (header_bit 0 _ pins a)
        ∙ ap (bits_in (c ∷ d ∷ e ∷ g ∷ h ∷ i ∷ [])) (header_bit 1 _ (pin_record true false a) b)
        ∙ ap (bits_in (d ∷ e ∷ g ∷ h ∷ i ∷ [])) (header_bit 2 _ (pin_record true false b) c)
        ∙ ap (bits_in (e ∷ g ∷ h ∷ i ∷ [])) (header_bit 3 _ (pin_record true false c) d)
        ∙ ap (bits_in (g ∷ h ∷ i ∷ [])) (header_bit 4 _ (pin_record true false d) e)
        ∙ ap (bits_in (h ∷ i ∷ [])) (header_bit 5 _ (pin_record true false e) g)
        ∙ ap (bits_in (i ∷ [])) (header_bit 6 _ (pin_record true false g) h)
        ∙ header_bit 7 _ (pin_record true false h) i

    write_eight : (address : ℕ) (burst : Bool) → bits_in all_bits (wired pins (ready_in f (Write address burst 0 0))) ≡ wired (pin_record true false i) (ready_in (written f address (taken seven_gathered (number i))) (after_write address burst))
    unfolding bits_in
    write_eight address burst =
        ap (bits_in (b ∷ c ∷ d ∷ e ∷ g ∷ h ∷ i ∷ [])) (write_bit address burst 0 _ pins a)
        ∙ ap (bits_in (c ∷ d ∷ e ∷ g ∷ h ∷ i ∷ [])) (write_bit address burst 1 _ (pin_record true false a) b)
        ∙ ap (bits_in (d ∷ e ∷ g ∷ h ∷ i ∷ [])) (write_bit address burst 2 _ (pin_record true false b) c)
        ∙ ap (bits_in (e ∷ g ∷ h ∷ i ∷ [])) (write_bit address burst 3 _ (pin_record true false c) d)
        ∙ ap (bits_in (g ∷ h ∷ i ∷ [])) (write_bit address burst 4 _ (pin_record true false d) e)
        ∙ ap (bits_in (h ∷ i ∷ [])) (write_bit address burst 5 _ (pin_record true false e) g)
        ∙ ap (bits_in (i ∷ [])) (write_bit address burst 6 _ (pin_record true false g) h)
        ∙ write_bit address burst 7 _ (pin_record true false h) i

  -- the deaf hear no bits
  deaf_bits : (bits : List Bool) (pins : PinRecord) → (bits_in bits (wired pins (ready_in f Deaf))).part ≡ ready_in f Deaf
  unfolding bits_in
  deaf_bits [] pins = refl
  deaf_bits (si ∷ bits) pins = ap (λ w. (bits_in bits w).part) (deaf_bit pins si) ∙ deaf_bits bits (pin_record true false si)

  pub header_in : (byte : ℕ) (pins : PinRecord) → byte < 256 → (byte_in byte (wired pins (ready_in f fresh_header))).part ≡ ready_in f (headed byte)
  unfolding low_levels gather
  header_in byte pins small =
      ap (λ w. w.part) (header_eight (bit_set byte 7) (bit_set byte 6) (bit_set byte 5) (bit_set byte 4) (bit_set byte 3) (bit_set byte 2) (bit_set byte 1) (bit_set byte 0) pins)
      ∙ ap (λ (n : ℕ). ready_in f (headed n)) (gathers_all byte small)

  pub data_in : (byte address : ℕ) (burst : Bool) (pins : PinRecord) → byte < 256 → (byte_in byte (wired pins (ready_in f (Write address burst 0 0)))).part ≡ ready_in (written f address byte) (after_write address burst)
  unfolding low_levels gather
  data_in byte address burst pins small =
      ap (λ w. w.part) (write_eight (bit_set byte 7) (bit_set byte 6) (bit_set byte 5) (bit_set byte 4) (bit_set byte 3) (bit_set byte 2) (bit_set byte 1) (bit_set byte 0) pins address burst)
      ∙ ap (λ (n : ℕ). ready_in (written f address n) (after_write address burst)) (gathers_all byte small)

-- a part that is ready in a phase
pub is_ready : (p : PartState) (phase : Phase) → Ready p → p.phase ≡ phase → p ≡ ready_in p.file phase
is_ready p phase r e =
    ap₂ (λ (ce sclk : Bool). record { file = p.file; ce = ce; sclk = sclk; phase = p.phase }) r.selected r.low ∙ ap (ready_in p.file) e

pub arrives : (byte : ℕ) (w : Wired) (after : PartState) → byte < 256 → length w.part.file.core.map.cells ≡ 7 → length w.part.file.alarms ≡ 2 → after ≡ (byte_in byte w).part → Arrives byte w.part after
arrives byte w after small seven two e =
    record {
      header = λ address format few is ready fresh.
          e ∙ ap (λ p. (byte_in byte (wired w.pins p)).part) (is_ready w.part fresh_header ready fresh)
          ∙ header_in w.part.file byte w.pins small
          ∙ ap (ready_in w.part.file) (halves byte address format few is);
      lands = landed;
      stands = λ address burst ready writes.
          subst (λ (p : PartState). StandsIn w.part.file address byte p.file) (sym (landed address burst ready writes))
          (written_stands w.part.file address byte seven two small);
      deaf = λ ready is.
          e ∙ ap (λ p. (byte_in byte (wired w.pins p)).part) (is_ready w.part Deaf ready is)
          ∙ deaf_bits w.part.file (low_levels byte 8) w.pins;
    }
  where
    landed : (address : ℕ) (burst : Bool) → Ready w.part → w.part.phase ≡ Write address burst 0 0 → after ≡ ready_in (written w.part.file address byte) (after_write address burst)
    landed address burst ready writes =
        e ∙ ap (λ p. (byte_in byte (wired w.pins p)).part) (is_ready w.part (Write address burst 0 0) ready writes)
        ∙ data_in w.part.file byte address burst w.pins small

-- eight rises from the beginning of a read byte
data_out : (f : FileState) (address : ℕ) (burst : Bool) (old : ℕ) (out : SerialOut) (pins : PinRecord) → levels_out 8 (wired pins (ready_in f (Read address burst 0 old out))) ≡ (map level_out (bits_of (get_or (registers f) address 0)), wired (pin_record true false false) (ready_in f (after_read address burst (level_out (bit_at (get_or (registers f) address 0) 0)))))
unfolding levels_out low_bits pins_part
data_out f address burst old out pins = refl

-- the eight bits of a number are those of its lowest byte
low_eight : (n : ℕ) → bits_of n ≡ bits_of (n % 256)
unfolding low_bits
low_eight n =
    let a : bit_at n 7 ≡ bit_at (n % 256) 7 = omega arith in
    let b : bit_at n 6 ≡ bit_at (n % 256) 6 = omega arith in
    let c : bit_at n 5 ≡ bit_at (n % 256) 5 = omega arith in
    let d : bit_at n 4 ≡ bit_at (n % 256) 4 = omega arith in
    let e : bit_at n 3 ≡ bit_at (n % 256) 3 = omega arith in
    let g : bit_at n 2 ≡ bit_at (n % 256) 2 = omega arith in
    let h : bit_at n 1 ≡ bit_at (n % 256) 1 = omega arith in
    let i : bit_at n 0 ≡ bit_at (n % 256) 0 = omega arith in
    ap₂ ◌∷◌ a (ap₂ ◌∷◌ b (ap₂ ◌∷◌ c (ap₂ ◌∷◌ d (ap₂ ◌∷◌ e (ap₂ ◌∷◌ g (ap₂ ◌∷◌ h (ap₂ ◌∷◌ i refl)))))))

byte_spelt : (n : ℕ) → spelt 0 (map level_out (bits_of n)) ≡ n % 256
byte_spelt n =
    ap (λ (bits : List ℕ). spelt 0 (map level_out bits)) (low_eight n) ∙ bits_spelt (n % 256) (omega arith)

lowest_bit : (n : ℕ) → bit_at n 0 ≡ bit_at (n % 256) 0
lowest_bit n = omega arith

-- a byte out of the register that is due
pub register_out : (f : FileState) (address : ℕ) (burst : Bool) (old : ℕ) (out : SerialOut) (pins : PinRecord) → byte_out (wired pins (ready_in f (Read address burst 0 old out))) ≡ (byte_at f address, wired (pin_record true false false) (ready_in f (after_read address burst (level_out (bit_at (byte_at f address) 0)))))
register_out f address burst old out pins =
    ap (λ (s : List SerialOut × Wired). (spelt 0 s.0, s.1)) (data_out f address burst old out pins)
    ∙ ap₂ (λ (n bit : ℕ). (n, wired (pin_record true false false) (ready_in f (after_read address burst (level_out bit))))) (byte_spelt (get_or (registers f) address 0)) (lowest_bit (get_or (registers f) address 0))

pub stands_there : (w : Wired) (byte : ℕ) (v : Wired) → ◌≡◌ {A = ℕ × Wired} (byte, v) (byte_out w) → StandsThere w byte v.part
stands_there w byte v e =
    record {
      levels = λ address burst old out ready reads.
          ap (λ p. (levels_out 8 (wired w.pins p)).0) (is_ready w.part (Read address burst 0 old out) ready reads)
          ∙ ap (λ (s : List SerialOut × Wired). s.0) (data_out w.part.file address burst old out w.pins);
      stood = λ address burst old out ready reads.
          ap (λ (s : ℕ × Wired). s.0) (whole address burst old out ready reads);
      goes_on = λ address burst old out ready reads.
          let all = whole address burst old out ready reads in
          ap (λ (s : ℕ × Wired). s.1.part) all
          ∙ ap (λ (n : ℕ). ready_in w.part.file (after_read address burst (level_out (bit_at n 0)))) (sym (ap (λ (s : ℕ × Wired). s.0) all));
    }
  where
    whole : (address : ℕ) (burst : Bool) (old : ℕ) (out : SerialOut) → Ready w.part → w.part.phase ≡ Read address burst 0 old out → ◌≡◌ {A = ℕ × Wired} (byte, v) (byte_at w.part.file address, wired (pin_record true false false) (ready_in w.part.file (after_read address burst (level_out (bit_at (byte_at w.part.file address) 0)))))
    whole address burst old out ready reads =
        e ∙ ap (λ p. byte_out (wired w.pins p)) (is_ready w.part (Read address burst 0 old out) ready reads)
        ∙ register_out w.part.file address burst old out w.pins
