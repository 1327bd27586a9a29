-- A row of answers, filled call by call.
use Rattle.std.proofs.Common.{◌≡◌, ℕ, ◌+◌, ◌<◌, ◌∷◌, [], ◌++◌, List, length, get_or, set, take, drop, refl, sym, ap, ◌∙◌, arith}
use Rattle.std.proofs.lemmas.List.{take_more, take_more_set, drop-set-lt}
use Rattle.std.proofs.lemmas.Grind.{drop_more_same}
use Rattle.timekeeping.specs.Logs.{Machine, outcome}
use Rattle.timekeeping.proofs.Outcomes.{outcome_none, outcome_more}

-- The first so many calls are worked: their answers are the front of the row, and the rest of it is as it was.
pub record Filled (m : Machine) (start s : m.State) (calls : List m.Call) (before row : List m.Answer) (place : ℕ) : Type 0 where
  pub front : outcome m start (take place calls) ≡ (take place row, s)
  pub rest : drop place row ≡ drop place before

module _ (m : Machine) (start : m.State) (calls : List m.Call) (before : List m.Answer) where
  pub filled_none : Filled m start start calls before before 0
  filled_none = record { front = outcome_none m start; rest = refl }

  pub filled_more : (s t : m.State) (row : List m.Answer) (place : ℕ) (call : m.Call) (answer : m.Answer) → place < length calls → place < length row → call ≡ get_or calls place call → (answer, t) ≡ m.step s call → Filled m start s calls before row place → Filled m start t calls before (set row place answer) (place + 1)
  filled_more s t row place call answer more room here done so_far =
      record {
        front = outcome_more m start s t (take place calls) (take (place + 1) calls) call (take place row) (take (place + 1) (set row place answer)) answer
            (take_more calls place call more ∙ ap (λ x. take place calls ++ (x ∷ [])) (sym here))
            so_far.front done (take_more_set row place answer room);
        rest = drop-set-lt (place + 1) row place answer (omega arith) ∙ drop_more_same row before place so_far.rest;
      }
