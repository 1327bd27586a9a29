-- How a number is gathered group by group.
use Rattle.std.proofs.Common.{◌≡◌, ℕ, ◌+◌, ◌*◌, ◌%◌, ◌^◌, ◌<◌, ◌≤◌, false, ◌&&◌, eqb, ltb, List, [], ◌∷◌, length, get_or, drop, IfOk, Ok, Err, sym, refl, ap, ◌∙◌, ⊎_elim, mod-eq_of_lt, mul_assoc, mul_comm, one-mul, zero-add, mul-add, arith}
use Rattle.std.proofs.lemmas.Bool.{cond-true, cond-false, cond_both, lt-ltb, le-ltb, eq-eqb, ne_eqb, and_from, and_left, and_right, cases_eq}
use Rattle.std.proofs.lemmas.Nat.{mul-le, pow-add}
use Rattle.std.proofs.lemmas.List.{at_drop_more}
use Rattle.std.proofs.Math.ListN.{drop_of_length-le}
use Rattle.tape.specs.declared.record.TapeRefusal.TheVariants.{TapeEnds, BadNumber}
use Rattle.tape.specs.Records.{NumberRead, low_group, groups_after}

-- a number so far, with those groups above it that are still to come
abbrev pub above : ℕ → ℕ → NumberRead → NumberRead
above so_far weight (Ok read) = Ok (so_far + weight * read.0, read.1)
above so_far weight (Err e) = Err e

pub above_nothing : (x : NumberRead) → above 0 1 x ≡ x
above_nothing (Ok read) = ap {B = NumberRead} (λ (n : ℕ). Ok (n, read.1)) (zero-add (1 * read.0) ∙ one-mul read.0)
above_nothing (Err e) = refl

pub above_low : (so_far weight low : ℕ) (x : NumberRead) → above so_far weight (low_group low x) ≡ above (so_far + low * weight) (weight * 128) x
above_low so_far weight low (Ok read) =
    let m = read.0 in
    let spread : weight * (low + 128 * m) ≡ low * weight + weight * 128 * m = mul-add weight low (128 * m) ∙ (λ i. mul_comm weight low i + sym (mul_assoc weight 128 m) i) in
    ap {B = NumberRead} (λ (n : ℕ). Ok (n, read.1)) (omega (arith, spread))
above_low so_far weight low (Err e) = refl

alone_passes : (before group : ℕ) → (group ≡ 0 → before ≡ 0) → (eqb group 0 && ltb 0 before) ≡ false
alone_passes before group alone =
    ⊎_elim
    (λ is_zero. and_right (eqb group 0) (ltb 0 before) (le-ltb 0 before (omega (arith, alone is_zero))))
    (λ other. and_left (eqb group 0) (ltb 0 before) (ne_eqb group 0 other))
    (cases_eq group 0)

-- the four ways of one group
pub last_group : (before group : ℕ) (rest : List ℕ) → group < 128 → (group ≡ 0 → before ≡ 0) → groups_after before (group ∷ rest) ≡ Ok (group, rest)
unfolding groups_after
last_group before group rest last alone = cond-true _ _ _ (lt-ltb group 128 last) ∙ cond-false _ _ _ (alone_passes before group alone)

pub padded_group : (before group : ℕ) (rest : List ℕ) → group ≡ 0 → 0 < before → groups_after before (group ∷ rest) ≡ Err BadNumber
unfolding groups_after
padded_group before group rest is_zero several =
    cond-true _ _ _ (lt-ltb group 128 (omega arith)) ∙ cond-true _ _ _ (and_from (eqb group 0) (ltb 0 before) (eq-eqb group 0 is_zero) (lt-ltb 0 before several))

pub fifth_group : (before group : ℕ) (rest : List ℕ) → 128 ≤ group → before ≡ 4 → groups_after before (group ∷ rest) ≡ Err BadNumber
unfolding groups_after
fifth_group before group rest more fifth = cond-false _ _ _ (le-ltb group 128 more) ∙ cond-true _ _ _ (eq-eqb before 4 fifth)

pub more_groups : (before group : ℕ) (rest : List ℕ) → 128 ≤ group → (before ≡ 4 → ⊥) → groups_after before (group ∷ rest) ≡ low_group (group % 128) (groups_after (before + 1) rest)
unfolding groups_after
more_groups before group rest more few = cond-false _ _ _ (le-ltb group 128 more) ∙ cond-false _ _ _ (ne_eqb before 4 few)

-- what the groups weigh
weight_more : (place : ℕ) → 2 ^ (7 * place) * 128 ≡ 2 ^ (7 * (place + 1))
weight_more place = sym (pow-add 2 (7 * place) 7) ∙ ap (λ k. 2 ^ k) (omega arith)

pub stays_below : (so_far digit place : ℕ) → digit < 128 → so_far < 2 ^ (7 * place) → so_far + digit * 2 ^ (7 * place) < 2 ^ (7 * (place + 1))
stays_below so_far digit place small below =
    let weight = 2 ^ (7 * place) in omega (arith, weight_more place, mul-le digit weight 127 weight (omega arith) (omega arith))

-- One turn of the loop, at a byte of the tape: what was known before it is known after it.
module _ (so_far place : ℕ) (tape : List ℕ) (whole : NumberRead) (known : above so_far (2 ^ (7 * place)) (groups_after place (drop place tape)) ≡ whole) where
  pub broken_off : length tape ≤ place → Err TapeEnds ≡ whole
  unfolding groups_after
  broken_off none = ap (λ l. above so_far (2 ^ (7 * place)) (groups_after place l)) (sym (drop_of_length-le tape none)) ∙ known

  module _ (some : place < length tape) where
    abbrev pub group : ℕ
    group = get_or tape place 0

    abbrev pub rest : List ℕ
    rest = drop (place + 1) tape

    at_front : above so_far (2 ^ (7 * place)) (groups_after place (group ∷ rest)) ≡ whole
    at_front = sym (at_drop_more (λ l. above so_far (2 ^ (7 * place)) (groups_after place l)) tape place 0 some) ∙ known

    pub number_ends : group < 128 → (group ≡ 0 → place ≡ 0) → ◌≡◌ {A = NumberRead} (Ok (so_far + (group % 128) * 2 ^ (7 * place), rest)) whole
    number_ends last alone =
        let same : so_far + (group % 128) * 2 ^ (7 * place) ≡ so_far + 2 ^ (7 * place) * group = ap (λ n. so_far + n) (ap (λ n. n * 2 ^ (7 * place)) (mod-eq_of_lt last) ∙ mul_comm group (2 ^ (7 * place))) in
        ap {B = NumberRead} (λ (n : ℕ). Ok (n, rest)) same ∙ ap (above so_far (2 ^ (7 * place))) (sym (last_group place group rest last alone)) ∙ at_front

    pub padded : group ≡ 0 → 0 < place → Err BadNumber ≡ whole
    padded is_zero several = ap (above so_far (2 ^ (7 * place))) (sym (padded_group place group rest is_zero several)) ∙ at_front

    pub too_many_groups : 128 ≤ group → place ≡ 4 → Err BadNumber ≡ whole
    too_many_groups more fifth = ap (above so_far (2 ^ (7 * place))) (sym (fifth_group place group rest more fifth)) ∙ at_front

    pub number_goes_on : 128 ≤ group → (place ≡ 4 → ⊥) → above (so_far + (group % 128) * 2 ^ (7 * place)) (2 ^ (7 * (place + 1))) (groups_after (place + 1) rest) ≡ whole
    number_goes_on more few =
        ap (λ w. above (so_far + (group % 128) * 2 ^ (7 * place)) w (groups_after (place + 1) rest)) (sym (weight_more place)) ∙ sym (above_low so_far (2 ^ (7 * place)) (group % 128) (groups_after (place + 1) rest)) ∙ ap (above so_far (2 ^ (7 * place))) (sym (more_groups place group rest more few)) ∙ at_front

-- a number takes at least one byte
low_group_keeps : (P : List ℕ → Type 0) (low : ℕ) (x : NumberRead) → IfOk x (λ read. P read.1) → IfOk (low_group low x) (λ read. P read.1)
low_group_keeps P low (Ok read) h = h
low_group_keeps P low (Err e) h = tt

weaker : (n m : ℕ) (x : NumberRead) → n ≤ m → IfOk x (λ read. length read.1 < n) → IfOk x (λ read. length read.1 < m)
weaker n m (Ok read) le h = omega arith
weaker n m (Err e) le h = tt

pub number_shortens : (before : ℕ) (bytes : List ℕ) → IfOk (groups_after before bytes) (λ read. length read.1 < length bytes)
unfolding groups_after
number_shortens before [] = tt
number_shortens before (group ∷ rest) =
    let P : NumberRead → Type 0 = λ x. IfOk x (λ read. length read.1 < length (group ∷ rest)) in
    cond_both (ltb group 128) _ _ P
    (λ _. cond_both (eqb group 0 && ltb 0 before) _ _ P (λ _. tt) (λ _. omega arith))
    (λ _. cond_both (eqb before 4) _ _ P (λ _. tt) (λ _. low_group_keeps (λ l. length l < length (group ∷ rest)) (group % 128) (groups_after (before + 1) rest) (weaker (length rest) (length (group ∷ rest)) (groups_after (before + 1) rest) (omega arith) (number_shortens (before + 1) rest))))
