-- What a line call leaves in a buffer that is long enough, for those who call it.
use Rattle.std.proofs.Common.{◌≡◌, ℕ, ◌≤◌, List, ◌++◌, length, take, drop, Ok, Result, sym, ap, ◌∙◌, arith}
use Rattle.std.proofs.lemmas.List.{length-append, take_at}
use Rattle.std.proofs.lemmas.Bool.{cond-false, le-ltb}
use Rattle.refusals.specs.declared.Refusal.{Refusal}
use Rattle.lines.specs.Lines.{line_into}

module _ (text out before : List ℕ) (answer : Result ℕ Refusal) (roomy : 64 ≤ length before) (wrote : ◌≡◌ {A = Result ℕ Refusal × List ℕ} (answer, out) (line_into text before)) where
  written : ◌≡◌ {A = Result ℕ Refusal × List ℕ} (answer, out) (Ok (length text), text ++ drop (length text) before)
  written = wrote ∙ cond-false _ _ _ (le-ltb (length before) 64 roomy)

  pub answers_length : answer ≡ Ok (length text)
  answers_length = ap (λ (p : Result ℕ Refusal × List ℕ). p.0) written

  holds_line : out ≡ text ++ drop (length text) before
  holds_line = ap (λ (p : Result ℕ Refusal × List ℕ). p.1) written

  module _ (n : ℕ) (ok : answer ≡ Ok n) where
    pub length_is : n ≡ length text
    length_is = let same = answers_length in cc

    pub length_within : n ≤ length out
    length_within = omega (arith, length_is, ap length holds_line ∙ length-append text (drop (length text) before))

    pub front_is_line : take n out ≡ text
    front_is_line = ap (take n) holds_line ∙ take_at text (drop (length text) before) n (sym length_is)
