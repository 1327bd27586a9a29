-- Shifts and masks against arithmetic, and bytes gathered bit by bit.
use Rattle.std.proofs.Common.{◌≡◌, ℕ, suc, ◌+◌, ◌*◌, ◌/◌, ◌%◌, ◌^◌, ◌<◌, ◌≤◌, zero-add, sym, ap, ◌∙◌, ap₂, arith}
use lib.Bits.{bit_and, bit_or}
use Rattle.std.proofs.lemmas.Nat.{and_mask, or_shifted, shr-shr, shr_le, shr_below, mod-mul-add}
use native.Mathlib.Nat.{pow-le-pow_right}
use Rattle.serial_transfer.specs.Levels.{taken, bit_at}

-- a shift by one and a bit behind it
pub shift_take : (gathered level : ℕ) → bit_or ((gathered * 2) % 256) (bit_and level 1) ≡ taken gathered level
shift_take gathered level =
    let shifted : (gathered * 2) % 256 ≡ (gathered % 128) * 2 = omega arith in
    let split : 2 * gathered + level % 2 ≡ gathered / 128 * 256 + ((gathered % 128) * 2 + level % 2) = omega arith in
    let small : (gathered % 128) * 2 + level % 2 < 256 = omega arith in
    ap₂ bit_or shifted (and_mask level 1) ∙ or_shifted (gathered % 128) 1 (level % 2) (omega arith)
    ∙ sym (ap (λ (n : ℕ). n % 256) split ∙ mod-mul-add (gathered / 128) 256 _ small)

-- the bits of a byte taken one after another: the front of the byte grows by one
pub taken_more : (byte place : ℕ) → byte < 256 → taken (byte / 2 ^ suc place) (bit_at byte place) ≡ byte / 2 ^ place
taken_more byte place h =
    let half : byte / 2 ^ place / 2 ≡ byte / 2 ^ suc place = shr-shr byte place 1 ∙ ap (λ (k : ℕ). byte / 2 ^ k) (omega arith) in
    let small = shr_le byte place in
    ap (λ (k : ℕ). taken k (bit_at byte place)) (sym half) ∙ omega arith

-- a byte has no bit beyond its eight
pub no_bit : (byte place : ℕ) → byte < 256 → 8 ≤ place → 0 ≡ bit_at byte place
no_bit byte place fits beyond =
    let large : 2 ^ 8 ≤ 2 ^ place = pow-le-pow_right {n = 2} (omega arith) {i = 8} {j = place} beyond in
    let below : byte < 2 ^ (0 + place) = rw (zero-add place) (omega arith) in
    let none : byte / 2 ^ place < 1 = shr_below byte 0 place below in
    omega arith
