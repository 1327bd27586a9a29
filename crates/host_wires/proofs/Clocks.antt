-- Bits and bytes one after another, as the loops do it.
use Rattle.std.proofs.Common.{◌≡◌, ℕ, zero, suc, ◌+◌, ◌-◌, ◌<◌, ◌≤◌, Bool, List, [], ◌∷◌, ◌++◌, length, get_or, drop, set, sym, refl, ap, ◌∙◌, ap₂, append_assoc, arith}
use Rattle.std.proofs.lemmas.List.{drop_more, set_at, drop_all, append-nil}
use Rattle.serial_transfer.specs.declared.phase.SerialOut.{SerialOut}
use Rattle.serial_transfer.specs.Levels.{taken, out_number}
use Rattle.serial_transfer.specs.Bytes.{spelt}
use Rattle.host_wires.specs.Record.{Wired}
use Rattle.host_wires.specs.Shifting.{bit_in, bit_set, low_levels, bits_in, bit_out, levels_out, byte_in, byte_out, bytes_in, bytes_out}

-- one bit more is in
pub in_more : (byte left : ℕ) (bit : Bool) (v w : Wired) → 0 < left → bit ≡ bit_set byte (left - 1) → w ≡ bit_in v bit → bits_in (low_levels byte (left - 1)) w ≡ bits_in (low_levels byte left) v
unfolding bits_in low_levels
in_more byte zero bit v w h b f = absurd (omega arith)
in_more byte (suc n) bit v w h b f =
    let less : suc n - 1 ≡ n = omega arith in
    ap (λ (k : ℕ). bits_in (low_levels byte k) w) less ∙ ap (bits_in (low_levels byte n)) (f ∙ ap (bit_in v) (b ∙ ap (bit_set byte) less))

-- all bits are in
pub in_done : (byte left : ℕ) (w : Wired) → left ≤ 0 → w ≡ bits_in (low_levels byte left) w
unfolding bits_in low_levels
in_done byte zero w h = refl
in_done byte (suc n) w h = absurd (omega arith)

-- what so many bits more make of those that are in, and both ends then
unfoldable pub spelt_on : (left gathered : ℕ) → Wired → ℕ × Wired
spelt_on left gathered w = (spelt gathered (levels_out left w).0, (levels_out left w).1)

-- one bit more is out
pub out_more : (less left g h : ℕ) (v w : Wired) (out : SerialOut) → suc less ≡ left → ◌≡◌ {A = SerialOut × Wired} (out, w) (bit_out v) → h ≡ taken g (out_number out) → spelt_on less h w ≡ spelt_on left g v
unfolding spelt_on levels_out spelt
out_more less left g h v w out n e t =
    let level : out ≡ (bit_out v).0 = ap (λ (s : SerialOut × Wired). s.0) e in
    let wires : w ≡ (bit_out v).1 = ap (λ (s : SerialOut × Wired). s.1) e in
    let front : h ≡ taken g (out_number (bit_out v).0) = t ∙ ap (λ (o : SerialOut). taken g (out_number o)) level in
    ap₂ (spelt_on less) front wires ∙ ap (λ (k : ℕ). spelt_on k g v) n

-- all bits are out
pub out_done : (out g : ℕ) (v w : Wired) → 8 ≤ out → spelt_on (8 - out) g v ≡ spelt_on 8 0 w → ◌≡◌ {A = ℕ × Wired} (g, v) (byte_out w)
unfolding spelt_on levels_out spelt
out_done out g v w all e =
    let none : 0 ≡ 8 - out = omega arith in
    ap (λ (k : ℕ). spelt_on k g v) none ∙ e

-- bytes one after another, one more at the end
pub bytes_push : (bytes : List ℕ) (byte : ℕ) (w : Wired) → bytes_in (bytes ++ byte ∷ []) w ≡ byte_in byte (bytes_in bytes w)
unfolding bytes_in
bytes_push [] byte w = refl
bytes_push (b ∷ bytes) byte w = bytes_push bytes byte (byte_in b w)

-- so many bytes out, one more at the end
pub out_push : (n : ℕ) (w : Wired) → bytes_out (n + 1) w ≡ ((bytes_out n w).0 ++ (byte_out (bytes_out n w).1).0 ∷ [], (byte_out (bytes_out n w).1).1)
unfolding bytes_out
out_push zero w = refl
out_push (suc n) w =
    let e : suc n + 1 ≡ suc (n + 1) = omega arith in
    ap (λ (k : ℕ). bytes_out k w) e ∙ ap (λ (s : List ℕ × Wired). ((byte_out w).0 ∷ s.0, s.1)) (out_push n (byte_out w).1)

out_length : (n : ℕ) (w : Wired) → length (bytes_out n w).0 ≡ n
unfolding bytes_out
out_length zero w = refl
out_length (suc n) w = ap suc (out_length n (byte_out w).1)

-- one place more of the buffer is filled
pub out_filled : (i : ℕ) (w v u : Wired) (buffer held : List ℕ) (byte : ℕ) → i < length buffer → held ≡ (bytes_out i w).0 ++ drop i buffer → v ≡ (bytes_out i w).1 → ◌≡◌ {A = ℕ × Wired} (byte, u) (byte_out v) → (set held i byte ≡ (bytes_out (i + 1) w).0 ++ drop (i + 1) buffer) × (u ≡ (bytes_out (i + 1) w).1)
out_filled i w v u buffer held byte h e f g =
    let step : (byte, u) ≡ byte_out (bytes_out i w).1 = g ∙ ap byte_out f in
    let n = out_length i w in
    let front : (bytes_out (i + 1) w).0 ≡ (bytes_out i w).0 ++ byte ∷ [] =
    ap (λ (s : List ℕ × Wired). s.0) (out_push i w) ∙ ap (λ (s : ℕ × Wired). (bytes_out i w).0 ++ s.0 ∷ []) (sym step) in (
      ap (λ (t : List ℕ). set t i byte) (e ∙ ap (λ (t : List ℕ). (bytes_out i w).0 ++ t) (drop_more buffer i byte h))
          ∙ set_at (bytes_out i w).0 (get_or buffer i byte) (drop (i + 1) buffer) byte i n
          ∙ sym (append_assoc (bytes_out i w).0 (byte ∷ []) (drop (i + 1) buffer))
          ∙ ap (λ (t : List ℕ). t ++ drop (i + 1) buffer) (sym front),
      ap (λ (s : ℕ × Wired). s.1) step ∙ sym (ap (λ (s : List ℕ × Wired). s.1) (out_push i w)),
    )

-- the buffer is full
pub out_full : (i : ℕ) (w v : Wired) (buffer held : List ℕ) → i ≡ length buffer → held ≡ (bytes_out i w).0 ++ drop i buffer → v ≡ (bytes_out i w).1 → ◌≡◌ {A = List ℕ × Wired} (held, v) (bytes_out (length buffer) w)
out_full i w v buffer held n e f =
    let none : drop i buffer ≡ [] = drop_all i buffer (omega arith) in
    let all : held ≡ (bytes_out i w).0 = e ∙ ap (λ (t : List ℕ). (bytes_out i w).0 ++ t) none ∙ append-nil (bytes_out i w).0 in
    ap₂ (λ (t : List ℕ) (u : Wired). (t, u)) all f ∙ ap (λ (k : ℕ). bytes_out k w) n
