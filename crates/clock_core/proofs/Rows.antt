-- Sixteen registers made one by one, and cells filled up with zeros.
use Rattle.std.proofs.Common.{◌≡◌, ℕ, zero, suc, ◌+◌, ◌-◌, ◌<◌, ◌≤◌, Bool, true, false, ltb, List, ◌++◌, length, get_or, replicate, sym, refl, subst, ◌∙◌, arith, length-append, ltb-false, ltb-true}
use lib.ListN.{length-replicate}
use Rattle.std.specs.Array.{IsFromFnResult, IsFromFnResultFrom}
use Rattle.std.specs.Fn.{Mut, Called}
use Rattle.std.proofs.lemmas.Grind.{same_number_lists}

-- an array made by a function that gives the number at each place of a list
module _ {F : Type 0} (g : Mut F (ℕ × Unit {0}) ℕ) (rs ys : List ℕ) (f : F) (gives : (i y : ℕ) (q : F) → Called g f (i, tt) y q → (y ≡ get_or rs i 0) × (q ≡ f)) where
  each_same : (n i k : ℕ) (p : F) → p ≡ f → IsFromFnResultFrom g p ys i n → i ≤ k → k < i + n → get_or ys k 0 ≡ get_or rs k 0
  each_same zero i k p e made low high = absurd (omega arith)
  each_same (suc n) i k p e made low high =
      let gave = gives i made.1 made.0 (subst (λ (x : F). Called g x (i, tt) made.1 made.0) e made.3) in
      by (ltb i k) refl (made.2.1 0 ∙ gave.0) (λ less. each_same n (i + 1) k made.0 gave.1 made.4 (omega arith) (omega arith))
    where
      by : (b : Bool) → ltb i k ≡ b → get_or ys i 0 ≡ get_or rs i 0 → (i < k → get_or ys k 0 ≡ get_or rs k 0) → get_or ys k 0 ≡ get_or rs k 0
      by true q here later = later (ltb-true _ _ q)
      by false q here later = let at : i ≡ k = (let less = ltb-false _ _ q in omega arith) in subst (λ (j : ℕ). get_or ys j 0 ≡ get_or rs j 0) at here

  pub made_same : (n : ℕ) → length rs ≡ n → IsFromFnResult g f ys n → ys ≡ rs
  made_same n long made = same_number_lists ys rs (made.long ∙ sym long) (λ k h. each_same n 0 k f refl made.each (omega arith) (let e = made.long in omega arith))

-- cells filled up with zeros
pub filled_length : (cells : List ℕ) → length cells ≤ 16 → length (cells ++ replicate (16 - length cells) 0) ≡ 16
filled_length cells h = simp (length-append, length-replicate) (omega arith)
