-- Rows of cells, cell by cell: their used bits, and when two rows are the same.
use Rattle.std.proofs.Common.{◌≡◌, ℕ, zero, suc, ◌-◌, ◌^◌, ◌<◌, List, [], ◌∷◌, get_or, refl, ◌∙◌, mod-eq_of_lt, arith}
use lib.Bits.{bit_and}
use Rattle.std.proofs.lemmas.Nat.{and_mask}

-- the low bits of a small number are all of it
pub low_bits : (n k : ℕ) → n < 2 ^ k → bit_and n (2 ^ k - 1) ≡ n
low_bits n k h = and_mask n k ∙ mod-eq_of_lt h

-- each cell has used bits alone
abbrev pub Masked : List ℕ → List ℕ → Type 0
Masked [] [] = Unit {0}
Masked [] (u ∷ us) = ⊥
Masked (x ∷ xs) [] = ⊥
Masked (x ∷ xs) (u ∷ us) = (bit_and x u ≡ x) × Masked xs us

pub masked_at : (xs us : List ℕ) → Masked xs us → (k : ℕ) → bit_and (get_or xs k 0) (get_or us k 0) ≡ get_or xs k 0
masked_at [] [] m k = refl
masked_at [] (u ∷ us) m k = absurd m
masked_at (x ∷ xs) [] m k = absurd m
masked_at (x ∷ xs) (u ∷ us) m zero = m.0
masked_at (x ∷ xs) (u ∷ us) m (suc k) = masked_at xs us m.1 k

-- each mask is a byte
abbrev pub Bytes : List ℕ → Type 0
Bytes [] = Unit {0}
Bytes (x ∷ xs) = (x < 256) × Bytes xs

pub byte_at : (xs : List ℕ) → Bytes xs → (k : ℕ) → get_or xs k 0 < 256
byte_at [] b k = omega arith
byte_at (x ∷ xs) b zero = b.0
byte_at (x ∷ xs) b (suc k) = byte_at xs b.1 k

-- cell by cell the same
abbrev pub Same : List ℕ → List ℕ → Type 0
Same [] [] = Unit {0}
Same [] (y ∷ ys) = ⊥
Same (x ∷ xs) [] = ⊥
Same (x ∷ xs) (y ∷ ys) = (x ≡ y) × Same xs ys

pub same_row : (xs ys : List ℕ) → Same xs ys → xs ≡ ys
same_row [] [] s = refl
same_row [] (y ∷ ys) s = absurd s
same_row (x ∷ xs) [] s = absurd s
same_row (x ∷ xs) (y ∷ ys) s = let e = same_row xs ys s.1 in rw (s.0, e)
