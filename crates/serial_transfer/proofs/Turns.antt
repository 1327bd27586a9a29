-- Bytes one after another, as the loops do it, and what a burst of them comes to.
use Rattle.std.proofs.Common.{◌≡◌, ℕ, zero, suc, ◌+◌, ◌*◌, ◌%◌, ◌<◌, ◌≤◌, true, List, [], ◌∷◌, ◌++◌, length, get_or, take, drop, set, replicate, Some, None, Option, sym, refl, ap, ◌∙◌, subst, ap₂, append_assoc, add-zero, add-one, arith}
use Rattle.std.proofs.lemmas.List.{take_more, drop_more, set_at, length-take-le, drop_all, append-nil}
use Rattle.serial_transfer.specs.declared.phase.SerialOut.{SerialOut}
use Rattle.serial_transfer.specs.declared.phase.Landing.{Landing}
use Rattle.serial_transfer.specs.declared.phase.Phase.{Phase}
use Rattle.serial_transfer.specs.declared.phase.Phase.TheVariants.{Idle, Write, Read, Deaf}
use Rattle.serial_transfer.specs.Levels.{bit_at, level_out}
use Rattle.serial_transfer.specs.Phase.{address_of}
use Rattle.serial_transfer.specs.Rules.{fresh_header, next_address, due_in}
use Rattle.serial_transfer.specs.Bytes.{byte_in}
use Rattle.serial_transfer.specs.Bursts.{bytes_in, register_out, registers_out, in_turn, out_turn}
use Rattle.serial_transfer.specs.Laws.{BurstIn, BurstOut, Edge, rise, fall, after_edges, OnlyCeWakes}
use Rattle.serial_transfer.proofs.Wholes.{header_landed, byte_landed, deaf_in, byte_given}

-- one place more of a buffer is filled
filled_more : {X : Type 0} (front buffer held : List X) (i : ℕ) (x : X) → length front ≡ i → i < length buffer → held ≡ front ++ drop i buffer → set held i x ≡ (front ++ x ∷ []) ++ drop (i + 1) buffer
filled_more front buffer held i x n h e =
    ap (λ t. set t i x) (e ∙ ap (λ t. front ++ t) (drop_more buffer i x h))
    ∙ set_at front (get_or buffer i x) (drop (i + 1) buffer) x i n
    ∙ sym (append_assoc front (x ∷ []) (drop (i + 1) buffer))

-- one byte more at the end
in_push : (bytes : List ℕ) (byte : ℕ) (p : Phase) → bytes_in (bytes ++ byte ∷ []) p ≡ ((bytes_in bytes p).0 ++ (byte_in byte (bytes_in bytes p).1).0 ∷ [], (byte_in byte (bytes_in bytes p).1).1)
unfolding bytes_in
in_push [] byte p = refl
in_push (b ∷ bytes) byte p =
    ap (λ (s : List (Option Landing) × Phase). ((byte_in b p).0 ∷ s.0, s.1)) (in_push bytes byte (byte_in b p).1)

in_length : (bytes : List ℕ) (p : Phase) → length (bytes_in bytes p).0 ≡ length bytes
unfolding bytes_in
in_length [] p = refl
in_length (b ∷ bytes) p = ap suc (in_length bytes (byte_in b p).1)

pub bytes_in_more : (bytes : List ℕ) (i : ℕ) (p q r : Phase) (buffer held : List (Option Landing)) (x : Option Landing) → i < length bytes → i < length buffer → held ≡ (bytes_in (take i bytes) p).0 ++ drop i buffer → q ≡ (bytes_in (take i bytes) p).1 → (x, r) ≡ byte_in (get_or bytes i 0) q → (set held i x ≡ (bytes_in (take (i + 1) bytes) p).0 ++ drop (i + 1) buffer) × (r ≡ (bytes_in (take (i + 1) bytes) p).1)
bytes_in_more bytes i p q r buffer held x h k e f g =
    let step : (x, r) ≡ byte_in (get_or bytes i 0) (bytes_in (take i bytes) p).1 = g ∙ ap (byte_in (get_or bytes i 0)) f in
    let more : bytes_in (take (i + 1) bytes) p ≡ ((bytes_in (take i bytes) p).0 ++ (byte_in (get_or bytes i 0) (bytes_in (take i bytes) p).1).0 ∷ [], (byte_in (get_or bytes i 0) (bytes_in (take i bytes) p).1).1) =
    ap (λ (t : List ℕ). bytes_in t p) (take_more bytes i 0 h) ∙ in_push (take i bytes) (get_or bytes i 0) p in
    let front : (bytes_in (take (i + 1) bytes) p).0 ≡ (bytes_in (take i bytes) p).0 ++ x ∷ [] =
    ap (λ (s : List (Option Landing) × Phase). s.0) more
    ∙ ap (λ (s : Option Landing × Phase). (bytes_in (take i bytes) p).0 ++ s.0 ∷ []) (sym step) in
    let n : length (bytes_in (take i bytes) p).0 ≡ i = in_length (take i bytes) p ∙ length-take-le i bytes (omega arith) in (
      filled_more (bytes_in (take i bytes) p).0 buffer held i x n k e ∙ ap (λ (t : List (Option Landing)). t ++ drop (i + 1) buffer) (sym front),
      ap (λ (s : Option Landing × Phase). s.1) step ∙ sym (ap (λ (s : List (Option Landing) × Phase). s.1) more),
    )

-- the address after the next, both round sixteen
round_more : (address : ℕ) → next_address (address % 16) ≡ (address + 1) % 16
round_more address = omega arith

-- a burst write of bytes lands them in turn
burst_lands : (address : ℕ) (bytes : List ℕ) → ((i : ℕ) → get_or bytes i 0 < 256) → bytes_in bytes (Write (address % 16) true 0 0) ≡ (in_turn address bytes, Write ((address + length bytes) % 16) true 0 0)
unfolding bytes_in in_turn
burst_lands address [] small = ap (λ (n : ℕ). ([], Write (n % 16) true 0 0)) (sym (add-zero address))
burst_lands address (b ∷ bytes) small =
    let landed = byte_landed b (address % 16) true (small 0) in
    let next : byte_in b (Write (address % 16) true 0 0) ≡ (Some (record { address = address % 16; byte = b }), Write ((address + 1) % 16) true 0 0) =
    landed ∙ ap (λ (n : ℕ). (Some (record { address = address % 16; byte = b }), Write n true 0 0)) (round_more address) in
    let rest = burst_lands (address + 1) bytes (λ i. small (suc i)) in
    let count : (address + 1) + length bytes ≡ address + suc (length bytes) = omega arith in
    ap (λ (s : Option Landing × Phase). (s.0 ∷ (bytes_in bytes s.1).0, (bytes_in bytes s.1).1)) next
    ∙ ap (λ (s : List (Option Landing) × Phase). (Some (record { address = address % 16; byte = b }) ∷ s.0, s.1)) rest
    ∙ ap (λ (n : ℕ). (Some (record { address = address % 16; byte = b }) ∷ in_turn (address + 1) bytes, Write (n % 16) true 0 0)) count

-- the deaf hear none of them
burst_unheard : (bytes : List ℕ) → bytes_in bytes Deaf ≡ (replicate (length bytes) None, Deaf)
unfolding bytes_in
burst_unheard [] = refl
burst_unheard (b ∷ bytes) =
    ap (λ (s : Option Landing × Phase). (s.0 ∷ (bytes_in bytes s.1).0, (bytes_in bytes s.1).1)) (deaf_in b)
    ∙ ap (λ (s : List (Option Landing) × Phase). (None ∷ s.0, s.1)) (burst_unheard bytes)

-- a header of an address and format 0, and bytes behind it
headed_burst : (address : ℕ) (rest : List ℕ) → ((i : ℕ) → get_or (16 * address ∷ rest) i 0 < 256) → (bytes_in (16 * address ∷ rest) fresh_header).0 ≡ None ∷ in_turn address rest
unfolding bytes_in
headed_burst address rest small =
    let few : 16 * address < 256 = small 0 in
    let same : address ≡ address % 16 = omega arith in
    let header : byte_in (16 * address) fresh_header ≡ (None, Write (address % 16) true 0 0) =
    header_landed (16 * address) address 0 few (omega arith) (omega arith) ∙ ap (λ (a : ℕ). (None, Write a true 0 0)) same in
    ap (λ (s : Option Landing × Phase). s.0 ∷ (bytes_in rest s.1).0) header
    ∙ ap (λ (s : List (Option Landing) × Phase). None ∷ s.0) (burst_lands address rest (λ i. small (suc i)))

small_take : (n : ℕ) (bytes : List ℕ) → ((i : ℕ) → get_or bytes i 0 < 256) → (i : ℕ) → get_or (take n bytes) i 0 < 256
small_take zero bytes small i = omega arith
small_take (suc n) [] small i = omega arith
small_take (suc n) (b ∷ bytes) small zero = small 0
small_take (suc n) (b ∷ bytes) small (suc i) = small_take n bytes (λ k. small (suc k)) i

pub burst_in : (bytes : List ℕ) (n : ℕ) (before : Phase) (buffer landings : List (Option Landing)) (after : Phase) → ((i : ℕ) → get_or bytes i 0 < 256) → n ≤ length bytes → address_of before < 16 → landings ≡ (bytes_in (take n bytes) before).0 ++ drop n buffer → after ≡ (bytes_in (take n bytes) before).1 → BurstIn bytes n before buffer landings after
burst_in bytes n before buffer landings after small few four e f =
    let count : length (take n bytes) ≡ n = length-take-le n bytes few in
    let written : (address : ℕ) → before ≡ Write address true 0 0 → bytes_in (take n bytes) before ≡ (in_turn address (take n bytes), Write ((address + n) % 16) true 0 0) =
    λ address is.
    let below : address ≡ address_of before = sym (ap address_of is) in
    let same : address ≡ address % 16 = omega arith in
    ap (bytes_in (take n bytes)) (is ∙ ap (λ (a : ℕ). Write a true 0 0) same)
    ∙ burst_lands address (take n bytes) (small_take n bytes small)
    ∙ ap (λ (k : ℕ). (in_turn address (take n bytes), Write ((address + k) % 16) true 0 0)) count in
    let unheard : before ≡ Deaf → bytes_in (take n bytes) before ≡ (replicate n None, Deaf) =
    λ is. ap (bytes_in (take n bytes)) is ∙ burst_unheard (take n bytes) ∙ ap (λ (k : ℕ). (replicate k None, Deaf)) count in
    record {
      lands = λ address is. e ∙ ap (λ (s : List (Option Landing) × Phase). s.0 ++ drop n buffer) (written address is);
      goes_on = λ address is. f ∙ ap (λ (s : List (Option Landing) × Phase). s.1) (written address is);
      from_header = λ address rest is fresh.
          e ∙ ap₂ (λ (t : List ℕ) (p : Phase). (bytes_in t p).0 ++ drop n buffer) is fresh
          ∙ ap (λ (t : List (Option Landing)). t ++ drop n buffer)
          (headed_burst address rest (λ i. subst (λ (t : List ℕ). get_or t i 0 < 256) is (small_take n bytes small i)));
      unheard = λ is. e ∙ ap (λ (s : List (Option Landing) × Phase). s.0 ++ drop n buffer) (unheard is);
      stays_deaf = λ is. f ∙ ap (λ (s : List (Option Landing) × Phase). s.1) (unheard is);
    }

-- one register more at the end
out_push : (registers : List ℕ) (n : ℕ) (p : Phase) → registers_out registers (n + 1) p ≡ ((registers_out registers n p).0 ++ (register_out registers (registers_out registers n p).1).0 ∷ [], (register_out registers (registers_out registers n p).1).1)
unfolding registers_out
out_push registers n p = ap (λ (k : ℕ). registers_out registers k p) (add-one n) ∙ push n p
  where
    push : (n : ℕ) (p : Phase) → registers_out registers (suc n) p ≡ ((registers_out registers n p).0 ++ (register_out registers (registers_out registers n p).1).0 ∷ [], (register_out registers (registers_out registers n p).1).1)
    push zero p = refl
    push (suc n) p =
        ap (λ (s : List (Option ℕ) × Phase). ((register_out registers p).0 ∷ s.0, s.1)) (push n (register_out registers p).1)

out_length : (registers : List ℕ) (n : ℕ) (p : Phase) → length (registers_out registers n p).0 ≡ n
unfolding registers_out
out_length registers zero p = refl
out_length registers (suc n) p = ap suc (out_length registers n (register_out registers p).1)

pub registers_out_more : (registers : List ℕ) (i : ℕ) (p q r : Phase) (buffer held : List (Option ℕ)) (x : Option ℕ) → i < length buffer → held ≡ (registers_out registers i p).0 ++ drop i buffer → q ≡ (registers_out registers i p).1 → (x, r) ≡ register_out registers q → (set held i x ≡ (registers_out registers (i + 1) p).0 ++ drop (i + 1) buffer) × (r ≡ (registers_out registers (i + 1) p).1)
registers_out_more registers i p q r buffer held x k e f g =
    let step : (x, r) ≡ register_out registers (registers_out registers i p).1 = g ∙ ap (register_out registers) f in
    let more = out_push registers i p in
    let front : (registers_out registers (i + 1) p).0 ≡ (registers_out registers i p).0 ++ x ∷ [] =
    ap (λ (s : List (Option ℕ) × Phase). s.0) more
    ∙ ap (λ (s : Option ℕ × Phase). (registers_out registers i p).0 ++ s.0 ∷ []) (sym step) in (
      filled_more (registers_out registers i p).0 buffer held i x (out_length registers i p) k e
          ∙ ap (λ (t : List (Option ℕ)). t ++ drop (i + 1) buffer) (sym front),
      ap (λ (s : Option ℕ × Phase). s.1) step ∙ sym (ap (λ (s : List (Option ℕ) × Phase). s.1) more),
    )

-- the whole buffer is filled
pub registers_out_all : (registers : List ℕ) (i : ℕ) (p q : Phase) (buffer held : List (Option ℕ)) → i ≡ length buffer → held ≡ (registers_out registers i p).0 ++ drop i buffer → q ≡ (registers_out registers i p).1 → (held, q) ≡ registers_out registers (length buffer) p
registers_out_all registers i p q buffer held n e f =
    let none : drop i buffer ≡ [] = drop_all i buffer (omega arith) in
    let front : held ≡ (registers_out registers i p).0 =
    e ∙ ap (λ (t : List (Option ℕ)). (registers_out registers i p).0 ++ t) none ∙ append-nil (registers_out registers i p).0 in
    ap₂ (λ (t : List (Option ℕ)) (u : Phase). (t, u)) front f ∙ ap (λ (k : ℕ). registers_out registers k p) n

-- a burst read gives the registers in turn
burst_gives : (registers : List ℕ) (address n byte : ℕ) (out : SerialOut) → ((i : ℕ) → get_or registers i 0 < 256) → ((registers_out registers n (Read (address % 16) true 0 byte out)).0 ≡ out_turn registers address n) × (due_in (registers_out registers n (Read (address % 16) true 0 byte out)).1 ≡ Some ((address + n) % 16))
unfolding registers_out out_turn
burst_gives registers address zero byte out small = (refl, ap (λ (n : ℕ). Some (n % 16)) (sym (add-zero address)))
burst_gives registers address (suc n) byte out small =
    let due = get_or registers (address % 16) 0 in
    let last = level_out (bit_at due 0) in
    let next : register_out registers (Read (address % 16) true 0 byte out) ≡ (Some due, Read ((address + 1) % 16) true 0 0 last) =
    byte_given due (address % 16) true byte out (small (address % 16))
    ∙ ap (λ (a : ℕ). (Some due, Read a true 0 0 last)) (round_more address) in
    let rest = burst_gives registers (address + 1) n 0 last small in
    let count : (address + 1) + n ≡ address + suc n = omega arith in (
      ap (λ (s : Option ℕ × Phase). s.0 ∷ (registers_out registers n s.1).0) next ∙ ap (λ (t : List (Option ℕ)). Some due ∷ t) rest.0,
      ap (λ (s : Option ℕ × Phase). due_in (registers_out registers n s.1).1) next ∙ rest.1 ∙ ap (λ (k : ℕ). Some (k % 16)) count,
    )

pub burst_out : (registers : List ℕ) (n : ℕ) (before : Phase) (given : List (Option ℕ)) (after : Phase) → ((i : ℕ) → get_or registers i 0 < 256) → address_of before < 16 → (given, after) ≡ registers_out registers n before → BurstOut registers n before given after
burst_out registers n before given after small four e =
    let read : (address byte : ℕ) (out : SerialOut) → before ≡ Read address true 0 byte out → before ≡ Read (address % 16) true 0 byte out =
    λ address byte out is.
    let below : address ≡ address_of before = sym (ap address_of is) in
    let same : address ≡ address % 16 = omega arith in
    is ∙ ap (λ (a : ℕ). Read a true 0 byte out) same in
    record {
      gives = λ address byte out is.
          ap (λ (s : List (Option ℕ) × Phase). s.0) (e ∙ ap (registers_out registers n) (read address byte out is))
          ∙ (burst_gives registers address n byte out small).0;
      asks_next = λ address byte out is.
          ap (λ (s : List (Option ℕ) × Phase). due_in s.1) (e ∙ ap (registers_out registers n) (read address byte out is))
          ∙ (burst_gives registers address n byte out small).1;
    }

deaf_along : (edges : List Edge) → after_edges Deaf edges ≡ Deaf
unfolding after_edges
deaf_along [] = refl
deaf_along (rise due ∷ edges) = deaf_along edges
deaf_along (fall si ∷ edges) = deaf_along edges

idle_along : (edges : List Edge) → after_edges Idle edges ≡ Idle
unfolding after_edges
idle_along [] = refl
idle_along (rise due ∷ edges) = idle_along edges
idle_along (fall si ∷ edges) = idle_along edges

pub only_ce_wakes : OnlyCeWakes
only_ce_wakes = record { deaf = deaf_along; idle = idle_along }
