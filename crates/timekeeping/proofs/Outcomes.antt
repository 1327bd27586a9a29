-- A list of calls, worked one after the other.
use Rattle.std.proofs.Common.{◌≡◌, List, [], ◌∷◌, ◌++◌, sym, refl, ap, ◌∙◌}
use Rattle.timekeeping.specs.Logs.{Machine, Log, hear, state_after, log_with, answers_in, outcome}

module _ (m : Machine) (start : m.State) where
  log_push : (calls : List m.Call) (log : Log m) (call : m.Call) → log_with m start log (calls ++ (call ∷ [])) ≡ hear m start (log_with m start log calls) call ∷ log_with m start log calls
  unfolding log_with
  log_push [] log call = refl
  log_push (x ∷ calls) log call = log_push calls (hear m start log x ∷ log) call

  pub outcome_none : outcome m start [] ≡ ([], start)
  unfolding log_with state_after answers_in
  outcome_none = refl

  -- one call more: its answer is added, and the machine is the one that it leaves
  pub outcome_push : (calls : List m.Call) (call : m.Call) → outcome m start (calls ++ (call ∷ [])) ≡ ((outcome m start calls).0 ++ ((m.step (outcome m start calls).1 call).0 ∷ []), (m.step (outcome m start calls).1 call).1)
  unfolding state_after answers_in
  outcome_push calls call = ap (λ (log : Log m). (answers_in m log, state_after m start log)) (log_push calls [] call)

  -- the same, of a machine and answers that stand after the calls before
  pub outcome_more : (s t : m.State) (calls more : List m.Call) (call : m.Call) (answers longer : List m.Answer) (answer : m.Answer) → more ≡ calls ++ (call ∷ []) → outcome m start calls ≡ (answers, s) → (answer, t) ≡ m.step s call → longer ≡ answers ++ (answer ∷ []) → outcome m start more ≡ (longer, t)
  outcome_more s t calls more call answers longer answer e before done pushed =
      ap (outcome m start) e
      ∙ outcome_push calls call
      ∙ ap (λ (o : List m.Answer × m.State). (o.0 ++ ((m.step o.1 call).0 ∷ []), (m.step o.1 call).1)) before
      ∙ ap (λ (d : m.Answer × m.State). (answers ++ (d.0 ∷ []), d.1)) (sym done)
      ∙ ap (λ (l : List m.Answer). (l, t)) (sym pushed)
