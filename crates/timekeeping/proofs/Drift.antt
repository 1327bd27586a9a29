-- Twenty times the pulses against the seconds: how far they drift apart.
use Rattle.std.proofs.Common.{◌≡◌, ℕ, zero, suc, ◌+◌, ◌-◌, ◌*◌, ◌%◌, ◌<◌, ◌≤◌, Bool, true, false, cond, eqb, ltb, ℤ, pos, ◌+ℤ◌, ◌-ℤ◌, ◌*ℤ◌, neg_ℤ, ◌≤ℤ◌, sym, refl, ap, subst, suc-mul, mul-le-mul, zero-mul, arith, ltb-false, ltb-true, eqb-true}
use borrow.Author.Tests.{eqb-false}
use Rattle.std.proofs.lemmas.Int.{ints}
use Rattle.std.proofs.lemmas.Bool.Decides.{nat_tests}
use Rattle.clock_core.specs.Seconds.{trimmed_length, trim_pulses}
use Rattle.timekeeping.specs.Seconds.{length_of_second, first_seconds, drift}

-- how far the next multiple of twenty is
abbrev ahead : ℕ → ℕ
ahead x = (20 - x % 20) % 20

-- A trimmed second is e pulses longer or f shorter; 655,360 + a is x.
pub record Trimmed (trim e f x : ℕ) : Type 0 where
  pub few : e + f ≤ 124
  pub pulses : pos 655360 +ℤ trim_pulses trim ≡ pos x
  pub twenty : x + f ≡ 655360 + e
  pub long : trimmed_length trim + f ≡ 32768 + e

pub trimmed_by : (trim : ℕ) → trim < 128 → (e : ℕ) × (f : ℕ) × (x : ℕ) × Trimmed trim e f x
trimmed_by trim h = by (ltb trim 64) refl (ltb trim 66) refl
  where
    by : (a : Bool) → ltb trim 64 ≡ a → (b : Bool) → ltb trim 66 ≡ b → (e : ℕ) × (f : ℕ) × (x : ℕ) × Trimmed trim e f x
    by true ea b eb =
        let low = ltb-true _ _ ea in
        (2 * (trim - 1), 0, 655360 + 2 * (trim - 1), record { few = omega arith; pulses = grind (arith, ints, nat_tests); twenty = omega arith; long = grind (arith, ints, nat_tests) })
    by false ea true eb =
        (0, 0, 655360, record { few = omega arith; pulses = grind (arith, ints, nat_tests); twenty = omega arith; long = grind (arith, ints, nat_tests) })
    by false ea false eb =
        let high = ltb-false _ _ eb in
        (0, 2 * (128 - trim), 655360 - 2 * (128 - trim), record { few = omega arith; pulses = grind (arith, ints, nat_tests); twenty = omega arith; long = grind (arith, ints, nat_tests) })

module _ (trim value e f x : ℕ) (t : Trimmed trim e f x) where
  -- twenty times the first n seconds, against n times x
  twenty_times : (n : ℕ) → 20 * first_seconds trim value n + ahead value * e + ahead (value + n) * f ≡ n * x + ahead (value + n) * e + ahead value * f
  unfolding first_seconds
  twenty_times zero =
      let same : value + 0 ≡ value = omega arith in
      let nothing = zero-mul x in
      let k = ap (λ (y : ℕ). ahead y * e) same in
      let l = ap (λ (y : ℕ). ahead y * f) same in
      omega arith
  twenty_times (suc n) = by (eqb ((value + n) % 20) 0) refl (twenty_times n)
    where
      by : (b : Bool) → eqb ((value + n) % 20) 0 ≡ b → 20 * first_seconds trim value n + ahead value * e + ahead (value + n) * f ≡ n * x + ahead (value + n) * e + ahead value * f → 20 * (first_seconds trim value n + cond b (trimmed_length trim) 32768) + ahead value * e + ahead (value + suc n) * f ≡ suc n * x + ahead (value + suc n) * e + ahead value * f
      by true q ih =
          let multiple = eqb-true _ _ q in
          let here : ahead (value + n) ≡ 0 = omega arith in
          let next : ahead (value + suc n) ≡ 19 = omega arith in
          let a = ap (λ (y : ℕ). y * e) here in
          let b = ap (λ (y : ℕ). y * f) here in
          let c = ap (λ (y : ℕ). y * e) next in
          let d = ap (λ (y : ℕ). y * f) next in
          omega (arith, suc-mul n x, zero-mul e, zero-mul f, t.twenty, t.long)
      by false q ih =
          let apart = eqb-false _ _ q in
          let one_less : ahead (value + n) ≡ suc (ahead (value + suc n)) = omega arith in
          let a = ap (λ (y : ℕ). y * e) one_less in
          let b = ap (λ (y : ℕ). y * f) one_less in
          omega (arith, suc-mul n x, suc-mul (ahead (value + suc n)) e, suc-mul (ahead (value + suc n)) f, t.twenty)

  -- both bounds, in whole numbers
  pub bounds : (n pulses : ℕ) → first_seconds trim value n ≤ pulses → pulses < first_seconds trim value n + length_of_second trim value n → (n * x ≤ 20 * pulses + 2356) × (20 * pulses ≤ n * x + 657820)
  bounds n pulses low high = by (eqb ((value + n) % 20) 0) refl high
    where
      by : (b : Bool) → eqb ((value + n) % 20) 0 ≡ b → pulses < first_seconds trim value n + cond b (trimmed_length trim) 32768 → (n * x ≤ 20 * pulses + 2356) × (20 * pulses ≤ n * x + 657820)
      by true q less =
          let multiple = eqb-true _ _ q in
          let here : ahead (value + n) ≡ 0 = omega arith in
          let sum = twenty_times n in
          let a = ap (λ (y : ℕ). y * e) here in
          let b = ap (λ (y : ℕ). y * f) here in
          let g : ahead value * e ≤ 19 * e = mul-le-mul (omega arith) (omega arith) in
          let h : ahead value * f ≤ 19 * f = mul-le-mul (omega arith) (omega arith) in
          (omega (arith, zero-mul e, zero-mul f, t.few), omega (arith, zero-mul e, zero-mul f, t.few, t.long))
      by false q less =
          let sum = twenty_times n in
          let g : ahead value * e ≤ 19 * e = mul-le-mul (omega arith) (omega arith) in
          let h : ahead value * f ≤ 19 * f = mul-le-mul (omega arith) (omega arith) in
          let i : ahead (value + n) * e ≤ 19 * e = mul-le-mul (omega arith) (omega arith) in
          let j : ahead (value + n) * f ≤ 19 * f = mul-le-mul (omega arith) (omega arith) in
          (omega (arith, t.few), omega (arith, t.few))

difference : (a b : ℕ) → b ≤ a + 2356 → a ≤ b + 657820 → (neg_ℤ (pos 2356) ≤ℤ (pos a -ℤ pos b)) × ((pos a -ℤ pos b) ≤ℤ pos 657820)
difference a b low high = (omega (arith, ints), omega (arith, ints))

-- the drift of so many pulses and n whole seconds lies within its bounds
pub drift_bounds : (trim value n pulses : ℕ) → trim < 128 → first_seconds trim value n ≤ pulses → pulses < first_seconds trim value n + length_of_second trim value n → (neg_ℤ (pos 2356) ≤ℤ drift trim pulses n) × (drift trim pulses n ≤ℤ pos 657820)
drift_bounds trim value n pulses h low high =
    let d = trimmed_by trim h in
    let b = bounds trim value d.0 d.1 d.2 d.3 n pulses low high in
    let is : drift trim pulses n ≡ pos (20 * pulses) -ℤ pos (n * d.2) = ap (λ (z : ℤ). pos (20 * pulses) -ℤ pos n *ℤ z) d.3.pulses in
    let P : ℤ → Type 0 = λ z. (neg_ℤ (pos 2356) ≤ℤ z) × (z ≤ℤ pos 657820) in
    subst P (sym is) (difference (20 * pulses) (n * d.2) b.0 b.1)
