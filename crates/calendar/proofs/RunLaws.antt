-- Place and start are each other's inverse, over any list of lengths.
use Rattle.std.proofs.Common.{◌≡◌, ℕ, zero, suc, ◌+◌, ◌-◌, ◌<◌, ◌≤◌, Bool, true, false, ltb, List, [], ◌∷◌, length, get_or, refl, zero-add, arith}
use Rattle.std.proofs.lemmas.Bool.{lt-ltb, le-ltb, ltb-true, ltb-false}
use Rattle.calendar.specs.Runs.{Place, placed, first_or, place, start}

pub start_none : (ls : List ℕ) → start ls 0 ≡ 0
unfolding start
start_none [] = refl
start_none (l ∷ ls) = refl

-- one run more
pub start_more : (ls : List ℕ) (i : ℕ) → i < length ls → start ls (suc i) ≡ start ls i + get_or ls i 0
unfolding start
start_more [] i h = omega arith
start_more (l ∷ []) zero h = omega arith
start_more (l ∷ (k ∷ ls)) zero h = omega arith
start_more (l ∷ ls) (suc i) h = let e = start_more ls i (omega arith) in omega arith

-- no run starts later than the whole ends
pub start_up : (ls : List ℕ) (i : ℕ) → start ls i ≤ start ls (length ls)
unfolding start
start_up [] i = omega arith
start_up (l ∷ ls) zero = omega arith
start_up (l ∷ ls) (suc i) = let e = start_up ls i in omega arith

-- the day that is so many days into a run falls there
pub place_of_start : (ls : List ℕ) (i o : ℕ) → i < length ls → o < get_or ls i 0 → place ls (start ls i + o) ≡ placed i o
unfolding place start
place_of_start [] i o h k = absurd (omega arith)
place_of_start (l ∷ ls) zero o h k = rw (zero-add, lt-ltb o l k)
place_of_start (l ∷ ls) (suc i) o h k =
    let e : l + start ls i + o - l ≡ start ls i + o = omega arith in
    let late : l ≤ l + start ls i + o = omega arith in
    let p = place_of_start ls i o (omega arith) k in
    rw (le-ltb (l + start ls i + o) l late, e, p)

-- What is known of the place of a day.
pub record Falls (ls : List ℕ) (n : ℕ) (p : Place) : Type 0 where
  pub a_run : p.run < length ls
  pub inside : p.past < get_or ls p.run 0
  pub counted : start ls p.run + p.past ≡ n

pub falls : (ls : List ℕ) (n : ℕ) → n < start ls (length ls) → Falls ls n (place ls n)
unfolding place start
falls [] n h = omega arith
falls (l ∷ ls) n h = falls_by (ltb n l) refl (λ k. falls ls (n - l) k)
  where
    falls_by : (b : Bool) → ltb n l ≡ b → (n - l < start ls (length ls) → Falls ls (n - l) (place ls (n - l))) → Falls (l ∷ ls) n (first_or b n (place ls (n - l)))
    falls_by true e later = let k = ltb-true n l e in record { a_run = omega arith; inside = k; counted = omega arith }
    falls_by false e later =
        let k = ltb-false n l e in
        let f = later (omega arith) in
        record { a_run = omega arith; inside = f.inside; counted = omega arith }
