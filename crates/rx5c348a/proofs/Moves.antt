-- A move tells which levels it comes of.
use Rattle.std.proofs.Common.{◌≡◌, ℕ, Bool, true, false, cond, not, ltb, Ok, Err, sym, refl, ◌∙◌, ltb-false, ltb-true}
use lib.Bits.{bit_and}
use Rattle.refusals.specs.declared.Refusal.TheVariants.{NoSuchLevels, TwoPinsChange}
use Rattle.rx5c_registers.specs.File.{has}
use Rattle.rx5c348a.specs.declared.pins.PinMove.TheVariants.{Still}
use Rattle.rx5c348a.specs.Pins.{differ, ce_to, sclk_to, move_of, Gives, Tells}

-- levels that differ, and that do not
other : (x was : Bool) → differ x was ≡ true → x ≡ not was
other true true e = sym e
other true false e = refl
other false true e = refl
other false false e = e

same : (x was : Bool) → differ x was ≡ false → x ≡ was
same true true e = refl
same true false e = e
same false true e = sym e
same false false e = refl

rose : (was : Bool) → true ≡ not was → was ≡ false
rose true e = e
rose false e = refl

fell : (was : Bool) → false ≡ not was → was ≡ true
fell true e = refl
fell false e = e

module _ (ce sclk : Bool) (levels : ℕ) where
  given : (x y : Bool) → ltb 7 levels ≡ false → has levels 4 ≡ x → has levels 2 ≡ y → Gives levels x y
  given x y few a b = record { known = ltb-false 7 levels few; ce_is = a; sclk_is = b }

  by : (over c k x y : Bool) → ltb 7 levels ≡ over → has levels 4 ≡ x → has levels 2 ≡ y → differ x ce ≡ c → differ y sclk ≡ k → Tells ce sclk levels (cond over (Err NoSuchLevels) (cond c (cond k (Err TwoPinsChange) (Ok (ce_to x))) (cond k (Ok (sclk_to y (bit_and levels 1))) (Ok Still))))
  by true c k x y few a b d e = ltb-true 7 levels few
  by false true true x y few a b d e = given _ _ few (a ∙ other x ce d) (b ∙ other y sclk e)
  by false true false true y few a b d e = (rose ce (other true ce d), given true sclk few a (b ∙ same y sclk e))
  by false true false false y few a b d e = (fell ce (other false ce d), given false sclk few a (b ∙ same y sclk e))
  by false false true x true few a b d e = (rose sclk (other true sclk e), given ce true few (a ∙ same x ce d) b)
  by false false true x false few a b d e = (fell sclk (other false sclk e), given ce false few (a ∙ same x ce d) b, refl)
  by false false false x y few a b d e = given _ _ few (a ∙ same x ce d) (b ∙ same y sclk e)

  pub tells : Tells ce sclk levels (move_of ce sclk levels)
  tells =
      by (ltb 7 levels) (differ (has levels 4) ce) (differ (has levels 2) sclk) (has levels 4) (has levels 2) refl refl refl refl refl
