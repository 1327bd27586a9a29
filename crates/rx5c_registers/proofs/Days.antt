-- A weekday's bit in a row's days.
use Rattle.std.proofs.Common.{◌≡◌, ℕ, ◌+◌, ◌-◌, ◌/◌, ◌%◌, ◌^◌, ◌<◌, ◌≤◌, false, eqb, sym, ap, ◌∙◌, arith}
use lib.Bits.{bit_and}
use Rattle.std.proofs.lemmas.Nat.{and_mask, shr-shr, shr_le}
use Rattle.rx5c_registers.specs.Alarms.{on_day}

pub day_bit : (days weekday : ℕ) → eqb (bit_and (days / 2 ^ weekday) 1) 1 ≡ on_day days weekday
day_bit days weekday = ap (λ (n : ℕ). eqb n 1) (and_mask (days / 2 ^ weekday) 1)

-- there is no ninth bit
pub no_day : (days weekday : ℕ) → days < 256 → 8 ≤ weekday → on_day days weekday ≡ false
no_day days weekday small late =
    let high : days / 2 ^ 8 ≡ 0 = omega arith in
    let sum : 8 + (weekday - 8) ≡ weekday = omega arith in
    let apart : days / 2 ^ weekday ≡ days / 2 ^ 8 / 2 ^ (weekday - 8) =
    ap (λ (k : ℕ). days / 2 ^ k) (sym sum) ∙ sym (shr-shr days 8 (weekday - 8)) in
    let none : 0 / 2 ^ (weekday - 8) ≤ 0 = shr_le 0 (weekday - 8) in
    let gone : 0 / 2 ^ (weekday - 8) ≡ 0 = omega (arith, none) in
    ap (λ (n : ℕ). eqb (n % 2) 1) (apart ∙ ap (λ (n : ℕ). n / 2 ^ (weekday - 8)) high ∙ gone)
