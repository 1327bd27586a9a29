-- Bits shifted in and out one after another, as the loops do it.
use Rattle.std.proofs.Common.{◌≡◌, ℕ, zero, suc, ◌-◌, ◌<◌, ◌≤◌, Some, Option, sym, refl, ap, ◌∙◌, ap₂, arith}
use Rattle.std.specs.Option.{option_or}
use Rattle.serial_transfer.specs.declared.phase.SerialOut.{SerialOut}
use Rattle.serial_transfer.specs.declared.phase.Landing.{Landing}
use Rattle.serial_transfer.specs.declared.phase.Phase.{Phase}
use Rattle.serial_transfer.specs.Levels.{taken, bit_at, out_number}
use Rattle.serial_transfer.specs.Rules.{due_in, risen, fallen}
use Rattle.serial_transfer.specs.Bytes.{low_bits, and_landed, levels_in, clocked_out, levels_out, spelt, given_if, byte_out}

-- one bit more is in
pub in_more : (byte left bit : ℕ) (p q : Phase) (l a r : Option Landing) → 0 < left → bit ≡ bit_at byte (left - 1) → (a, q) ≡ fallen (risen p 0) bit → r ≡ option_or a l → levels_in (low_bits byte (left - 1)) (r, q) ≡ levels_in (low_bits byte left) (l, p)
unfolding levels_in low_bits
in_more byte zero bit p q l a r h b f o = absurd (omega arith)
in_more byte (suc n) bit p q l a r h b f o =
    let less : suc n - 1 ≡ n = omega arith in
    let level : bit ≡ bit_at byte n = b ∙ ap (bit_at byte) less in
    let fell : (a, q) ≡ fallen (risen p 0) (bit_at byte n) = f ∙ ap (fallen (risen p 0)) level in
    let landed : ◌≡◌ {A = Option Landing × Phase} (r, q) (and_landed l (fallen (risen p 0) (bit_at byte n))) =
    ap (λ (x : Option Landing). (x, q)) o ∙ ap (and_landed l) fell in
    ap (λ (k : ℕ). levels_in (low_bits byte k) (r, q)) less ∙ ap (levels_in (low_bits byte n)) landed

-- all bits are in
pub in_done : (byte left : ℕ) (s : Option Landing × Phase) → left ≤ 0 → s ≡ levels_in (low_bits byte left) s
unfolding levels_in low_bits
in_done byte zero s h = refl
in_done byte (suc n) s h = absurd (omega arith)

-- what so many bits more make of those that are in, and the phase then
unfoldable pub spelt_on : (due left gathered : ℕ) → Phase → ℕ × Phase
spelt_on due left gathered p = (spelt gathered (levels_out left due p).0, (levels_out left due p).1)

-- one bit more is out
pub out_more : (due less left g h : ℕ) (p q : Phase) (out : SerialOut) → suc less ≡ left → (out, q) ≡ clocked_out due p → h ≡ taken g (out_number out) → spelt_on due less h q ≡ spelt_on due left g p
unfolding spelt_on levels_out spelt
out_more due less left g h p q out n e t =
    let level : out ≡ (clocked_out due p).0 = ap (λ (s : SerialOut × Phase). s.0) e in
    let phase : q ≡ (clocked_out due p).1 = ap (λ (s : SerialOut × Phase). s.1) e in
    let front : h ≡ taken g (out_number (clocked_out due p).0) = t ∙ ap (λ (o : SerialOut). taken g (out_number o)) level in
    ap₂ (spelt_on due less) front phase ∙ ap (λ (k : ℕ). spelt_on due k g p) n

-- all bits are out, where a byte is due
pub out_done : (due address out g : ℕ) (p q : Phase) → due_in p ≡ Some address → 8 ≤ out → spelt_on due (8 - out) g q ≡ spelt_on due 8 0 p → (Some g, q) ≡ byte_out due p
unfolding spelt_on levels_out spelt
out_done due address out g p q some all e =
    let none : 0 ≡ 8 - out = omega arith in
    let whole : spelt_on due 0 g q ≡ spelt_on due 8 0 p = ap (λ (k : ℕ). spelt_on due k g q) none ∙ e in
    ap (λ (s : ℕ × Phase). (Some s.0, s.1)) whole ∙ sym (ap (λ (o : Option ℕ). given_if o (levels_out 8 due p) p) some)
