-- A row of answers of hosts, filled call by call.
use Rattle.std.proofs.Common.{◌≡◌, ℕ, ◌+◌, ◌<◌, ◌∷◌, [], ◌++◌, List, length, get_or, set, take, drop, refl, sym, ap, ◌∙◌, arith}
use Rattle.std.proofs.lemmas.List.{take_more, take_more_set, drop-set-lt}
use Rattle.std.proofs.lemmas.Grind.{drop_more_same}
use Rattle.host_runs.specs.declared.call.HostCall.{HostCall}
use Rattle.host_runs.specs.Hosts.{Answered, HostState, work_one, host_run}
use Rattle.host_runs.proofs.Wires.{run_none, run_more}

-- The first so many calls are worked: their answers are the front of the row, and the rest of it is as it was.
pub record Filled (start s : HostState) (calls : List HostCall) (before row : List Answered) (place : ℕ) : Type 0 where
  pub front : host_run start (take place calls) ≡ (take place row, s)
  pub rest : drop place row ≡ drop place before

pub filled_none : (start : HostState) (calls : List HostCall) (row : List Answered) → Filled start start calls row row 0
filled_none start calls row = record { front = run_none start; rest = refl }

pub filled_more : (start s t : HostState) (calls : List HostCall) (before row : List Answered) (place : ℕ) (none call : HostCall) (answer : Answered) → place < length calls → place < length row → call ≡ get_or calls place none → ◌≡◌ {A = Answered × HostState} (answer, t) (work_one s call) → Filled start s calls before row place → Filled start t calls before (set row place answer) (place + 1)
filled_more start s t calls before row place none call answer more room here done so_far =
    record {
      front = run_more start s t (take place calls) (take (place + 1) calls) call (take place row) (take (place + 1) (set row place answer)) answer
          (take_more calls place none more ∙ ap (λ x. take place calls ++ (x ∷ [])) (sym here))
          so_far.front done (take_more_set row place answer room);
      rest = drop-set-lt (place + 1) row place answer (omega arith) ∙ drop_more_same row before place so_far.rest;
    }
