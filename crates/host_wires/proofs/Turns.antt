-- Bytes in turn: what a burst of any length leaves and gives.
use Rattle.std.proofs.Common.{◌≡◌, ℕ, zero, suc, ◌+◌, ◌%◌, ◌<◌, ◌≤◌, true, false, List, [], ◌∷◌, length, get_or, take, sym, refl, ap, ◌∙◌, add-zero, arith}
use Rattle.std.proofs.lemmas.List.{take_more, take_all}
use Rattle.serial_transfer.specs.declared.phase.SerialOut.{SerialOut}
use Rattle.serial_transfer.specs.declared.phase.Phase.TheVariants.{Write, Read}
use Rattle.serial_transfer.specs.Levels.{bit_at, level_out}
use Rattle.serial_transfer.specs.Phase.{address_of}
use Rattle.rx5c_registers.specs.File.{FileState, written}
use Rattle.rx5c348a.specs.Part.{PartState}
use Rattle.host_wires.specs.declared.record.PinRecord.{PinRecord}
use Rattle.host_wires.specs.Record.{Wired, wired, pin_record}
use Rattle.host_wires.specs.Shifting.{byte_in, byte_out, bytes_in, bytes_out}
use Rattle.host_wires.specs.Laws.{Ready, ready_in, byte_at, written_in_turn, registers_in_turn, AllArrive, AllStandThere}
use Rattle.host_wires.proofs.Clocks.{bytes_push}
use Rattle.host_wires.proofs.Wholes.{is_ready, data_in, register_out}

-- one byte more of a list is in
pub in_turn_more : (bytes : List ℕ) (i : ℕ) (v w u : Wired) → i < length bytes → v ≡ bytes_in (take i bytes) w → u ≡ byte_in (get_or bytes i 0) v → u ≡ bytes_in (take (i + 1) bytes) w
in_turn_more bytes i v w u h e f =
    f ∙ ap (byte_in (get_or bytes i 0)) e ∙ sym (ap (λ (t : List ℕ). bytes_in t w) (take_more bytes i 0 h) ∙ bytes_push (take i bytes) (get_or bytes i 0) w)

pub in_turn_none : (w : Wired) → w ≡ bytes_in [] w
unfolding bytes_in
in_turn_none w = refl

pub in_turn_all : (bytes : List ℕ) (i : ℕ) (v w : Wired) → length bytes ≤ i → v ≡ bytes_in (take i bytes) w → v ≡ bytes_in bytes w
in_turn_all bytes i v w h e = e ∙ ap (λ (t : List ℕ). bytes_in t w) (take_all i bytes h)

-- the next address, round sixteen
around : (a : ℕ) → (a % 16 + 1) % 16 ≡ (a + 1) % 16
around a = omega arith

shifted : (a n : ℕ) → (a + suc n) % 16 ≡ (a + 1 + n) % 16
shifted a n = ap (λ (k : ℕ). k % 16) (omega arith)

-- a burst write, from an address taken round sixteen
burst_lands : (f : FileState) (bytes : List ℕ) (address : ℕ) (pins : PinRecord) → ((i : ℕ) → get_or bytes i 0 < 256) → (bytes_in bytes (wired pins (ready_in f (Write (address % 16) true 0 0)))).part ≡ ready_in (written_in_turn f address bytes) (Write ((address + length bytes) % 16) true 0 0)
unfolding bytes_in written_in_turn
burst_lands f [] address pins small = ap (λ (a : ℕ). ready_in f (Write (a % 16) true 0 0)) (sym (add-zero address))
burst_lands f (byte ∷ bytes) address pins small =
    let w : Wired = byte_in byte (wired pins (ready_in f (Write (address % 16) true 0 0))) in
    let landed : w.part ≡ ready_in (written f (address % 16) byte) (Write ((address + 1) % 16) true 0 0) =
    data_in f byte (address % 16) true pins (small 0)
    ∙ ap (λ (a : ℕ). ready_in (written f (address % 16) byte) (Write a true 0 0)) (around address) in
    ap (λ (p : PartState). (bytes_in bytes (wired w.pins p)).part) landed
    ∙ burst_lands (written f (address % 16) byte) bytes (address + 1) w.pins (λ i. small (suc i))
    ∙ ap (λ (a : ℕ). ready_in (written_in_turn (written f (address % 16) byte) (address + 1) bytes) (Write a true 0 0)) (sym (shifted address (length bytes)))

within : (a : ℕ) → a < 16 → a ≡ a % 16
within a h = omega arith

pub all_arrive : (bytes : List ℕ) (w : Wired) (after : PartState) → ((i : ℕ) → get_or bytes i 0 < 256) → address_of w.part.phase < 16 → after ≡ (bytes_in bytes w).part → AllArrive bytes w.part after
all_arrive bytes w after small few e address ready writes =
    let below : address < 16 = let h : address_of w.part.phase ≡ address = ap address_of writes in omega arith in
    e ∙ ap (λ (p : PartState). (bytes_in bytes (wired w.pins p)).part) (is_ready w.part (Write address true 0 0) ready writes)
    ∙ ap (λ (a : ℕ). (bytes_in bytes (wired w.pins (ready_in w.part.file (Write a true 0 0)))).part) (within address below)
    ∙ burst_lands w.part.file bytes address w.pins small

-- a burst read, from an address taken round sixteen
burst_gives : (n : ℕ) (f : FileState) (address old : ℕ) (out : SerialOut) (pins : PinRecord) → ((bytes_out n (wired pins (ready_in f (Read (address % 16) true 0 old out)))).0 ≡ registers_in_turn f address n) × ((bytes_out n (wired pins (ready_in f (Read (address % 16) true 0 old out)))).1.part.file ≡ f)
unfolding bytes_out registers_in_turn
burst_gives zero f address old out pins = (refl, refl)
burst_gives (suc n) f address old out pins =
    let w : Wired = wired pins (ready_in f (Read (address % 16) true 0 old out)) in
    let next : SerialOut = level_out (bit_at (byte_at f (address % 16)) 0) in
    let given : byte_out w ≡ (byte_at f (address % 16), wired (pin_record true false false) (ready_in f (Read ((address + 1) % 16) true 0 0 next))) =
    register_out f (address % 16) true old out pins
    ∙ ap (λ (a : ℕ). (byte_at f (address % 16), wired (pin_record true false false) (ready_in f (Read a true 0 0 next)))) (around address) in
    let rest = burst_gives n f (address + 1) 0 next (pin_record true false false) in (
      ap (λ (s : ℕ × Wired). s.0 ∷ (bytes_out n s.1).0) given ∙ ap (λ (t : List ℕ). byte_at f (address % 16) ∷ t) rest.0,
      ap (λ (s : ℕ × Wired). (bytes_out n s.1).1.part.file) given ∙ rest.1,
    )

pub all_stand_there : (n : ℕ) (w v : Wired) (bytes : List ℕ) → address_of w.part.phase < 16 → ◌≡◌ {A = List ℕ × Wired} (bytes, v) (bytes_out n w) → AllStandThere n w.part bytes v.part
all_stand_there n w v bytes few e =
    record {
      stood = λ address old out ready reads. ap (λ (s : List ℕ × Wired). s.0) (whole address old out ready reads) ∙ (burst_gives n w.part.file address old out w.pins).0;
      unchanged = λ address old out ready reads. ap (λ (s : List ℕ × Wired). s.1.part.file) (whole address old out ready reads) ∙ (burst_gives n w.part.file address old out w.pins).1;
    }
  where
    whole : (address old : ℕ) (out : SerialOut) → Ready w.part → w.part.phase ≡ Read address true 0 old out → ◌≡◌ {A = List ℕ × Wired} (bytes, v) (bytes_out n (wired w.pins (ready_in w.part.file (Read (address % 16) true 0 old out))))
    whole address old out ready reads =
        let below : address < 16 = let h : address_of w.part.phase ≡ address = ap address_of reads in omega arith in
        e ∙ ap (λ (p : PartState). bytes_out n (wired w.pins p)) (is_ready w.part (Read address true 0 old out) ready reads)
        ∙ ap (λ (a : ℕ). bytes_out n (wired w.pins (ready_in w.part.file (Read a true 0 old out)))) (within address below)
