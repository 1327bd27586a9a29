-- A list of hosts' calls is the calls that it makes on the part, and so keeps time.
use Rattle.std.proofs.Common.{◌≡◌, ℕ, min, List, [], ◌∷◌, ◌++◌, map, length, take, sym, refl, ap, ◌∙◌, Some, None, Option, slice_get, append_assoc, arith}
use Rattle.std.proofs.lemmas.List.{length-take}
use Rattle.rx5c348a.specs.Part.{PartState}
use Rattle.rx5c348a.specs.Pins.{pins_part}
use Rattle.rx5c348a_runs.specs.declared.call.WireCall.{WireCall}
use Rattle.rx5c348a_runs.specs.declared.call.WireCall.TheVariants.{Pins}
use Rattle.rx5c348a_runs.specs.Calls.{part_machine, work_one as wire_one}
use Rattle.timekeeping.specs.Logs.{Log, state_after, hear, log_with, log_of}
use Rattle.host_wires.specs.declared.record.PinRecord.{PinRecord}
use Rattle.host_wires.specs.Record.{wired}
use Rattle.host_sessions.specs.Sessions.{opened, closed, single_read, single_write, burst_read, burst_write}
use Rattle.host_sessions.specs.Driven.{all_driven, levels_of_burst_read}
use Rattle.host_sessions.proofs.DrivenLaws.{close_driven, open_driven, read_driven, write_driven, burst_read_driven, burst_write_driven}
use Rattle.host_runs.specs.declared.call.SessionCall.{SessionCall}
use Rattle.host_runs.specs.declared.call.SessionCall.TheVariants.{Open, Close, Read, Write, BurstRead, BurstWrite}
use Rattle.host_runs.specs.declared.call.HostCall.{HostCall}
use Rattle.host_runs.specs.declared.call.HostCall.TheVariants.{Wire, Session}
use Rattle.host_runs.specs.Hosts.{Answered, Seat, IdleSeat, OpenSeat, SpentSeat, idle_step, open_step, spent_step, session_step, session_ended, HostState, seat_call, session_call, host_step, work_one, host_run}
use Rattle.host_runs.specs.Levels.{idle_levels, open_levels, spent_levels, session_levels, ending_levels, seat_levels, wire_calls_of, on_wires, part_after, part_after_levels, LevelsAfterEachCall}

-- the part after calls on it, one by one
unfoldable pub end_state : PartState → List WireCall → PartState
end_state p [] = p
end_state p (call ∷ calls) = end_state (wire_one p call).1 calls

ends : (start : PartState) (log : Log part_machine) (calls : List WireCall) → state_after part_machine start (log_with part_machine start log calls) ≡ end_state (state_after part_machine start log) calls
unfolding log_with state_after end_state
ends start log [] = refl
ends start log (call ∷ calls) = ends start (hear part_machine start log call ∷ log) calls

pub ends_at : (p : PartState) (calls : List WireCall) → part_after p calls ≡ end_state p calls
unfolding state_after
ends_at p calls = ends p [] calls

pub in_parts : (p : PartState) (xs ys : List WireCall) → end_state p (xs ++ ys) ≡ end_state (end_state p xs) ys
unfolding end_state
in_parts p [] ys = refl
in_parts p (x ∷ xs) ys = in_parts (wire_one p x).1 xs ys

-- levels one after another
pub levels_end : (p : PartState) (levels : List ℕ) → end_state p (map Pins levels) ≡ all_driven levels p
unfolding end_state all_driven wire_one
levels_end p [] = refl
levels_end p (l ∷ levels) = levels_end (pins_part p l).1 levels

nothing_driven : (p : PartState) → p ≡ all_driven [] p
unfolding all_driven
nothing_driven p = refl

module _ (p : PartState) (buffer : List ℕ) where
  idle_driven : (pins : PinRecord) (call : SessionCall) → (idle_step pins p call).2 ≡ all_driven (idle_levels p call) p
  unfolding opened
  idle_driven pins Open = open_driven (wired pins p) _ refl
  idle_driven pins _ = nothing_driven p

  spent_driven : (pins : PinRecord) (call : SessionCall) → (spent_step pins p call).2 ≡ all_driven (spent_levels p call) p
  unfolding closed
  spent_driven pins Close = close_driven (wired pins p) _ refl
  spent_driven pins _ = nothing_driven p

  pub front : (count : ℕ) → length (take (min count (length buffer)) buffer) ≡ min count (length buffer)
  front count = length-take (min count (length buffer)) buffer ∙ least count (length buffer)
    where
      least : (a b : ℕ) → min (min a b) b ≡ min a b
      least a b = omega arith

  open_driven_by : (pins : PinRecord) (call : SessionCall) → (open_step pins p buffer call).part ≡ all_driven (open_levels p (length buffer) call) p
  unfolding closed single_read single_write burst_read burst_write
  open_driven_by pins Open = nothing_driven p
  open_driven_by pins Close = close_driven (wired pins p) _ refl
  open_driven_by pins (Read address) = read_driven address (wired pins p) _ _ refl
  open_driven_by pins (Write address byte) = write_driven address byte (wired pins p) _ _ refl
  open_driven_by pins (BurstRead address count) =
      burst_read_driven address (take (min count (length buffer)) buffer) (wired pins p) _ _ _ refl
      ∙ ap (λ (n : ℕ). all_driven (levels_of_burst_read address n p) p) (front count)
  open_driven_by pins (BurstWrite address bytes) = burst_write_driven address bytes.now (wired pins p) _ _ refl

  session_driven : (seat : Seat) (call : SessionCall) → (session_step seat p buffer call).part ≡ all_driven (session_levels seat p (length buffer) call) p
  session_driven (IdleSeat pins) call = idle_driven pins call
  session_driven (OpenSeat pins) call = open_driven_by pins call
  session_driven (SpentSeat pins) call = spent_driven pins call

  -- a session's end
  end_driven : (seat : Seat) → (session_ended seat p).part ≡ all_driven (ending_levels seat p) p
  unfolding closed
  end_driven (IdleSeat pins) = nothing_driven p
  end_driven (OpenSeat pins) = close_driven (wired pins p) _ refl
  end_driven (SpentSeat pins) = close_driven (wired pins p) _ refl

-- levels on the part, as the calls that they are
as_calls : (p : PartState) (levels : List ℕ) → all_driven levels p ≡ part_after_levels p levels
as_calls p levels = sym (ends_at p (map Pins levels) ∙ levels_end p levels)

-- one call of any session leaves the part as its levels do, and so does its end
pub step_on_wires : (seat : Seat) (p q : PartState) (buffer : List ℕ) (call : SessionCall) → q ≡ (session_step seat p buffer call).part → q ≡ part_after_levels p (session_levels seat p (length buffer) call)
step_on_wires seat p q buffer call e =
    e ∙ session_driven p buffer seat call ∙ as_calls p (session_levels seat p (length buffer) call)

pub end_on_wires : (seat : Seat) (p q : PartState) → q ≡ (session_ended seat p).part → q ≡ part_after_levels p (ending_levels seat p)
end_on_wires seat p q e = e ∙ end_driven p [] seat ∙ as_calls p (ending_levels seat p)

-- one call of hosts is the calls that it makes on the part
seat_on_wires : (s : HostState) (number : ℕ) (call : SessionCall) (session : Option Seat)
    → (seat_call s number call session).1.part ≡ end_state s.part (map Pins (seat_levels s call session))
unfolding end_state
seat_on_wires s number call None = refl
seat_on_wires s number call (Some session) =
    session_driven s.part s.buffer session call
    ∙ sym (levels_end s.part (session_levels session s.part (length s.buffer) call))

one_on_wires : (s : HostState) (call : HostCall) → (host_step s call).1.part ≡ end_state s.part (wire_calls_of s call)
unfolding end_state wire_one session_call
one_on_wires s (Wire call) = refl
one_on_wires s (Session number call) = seat_on_wires s number call (slice_get s.sessions number)

pub run_on_wires : (s : HostState) (calls : List HostCall) → (host_run s calls).1.part ≡ end_state s.part (on_wires s calls)
unfolding host_run on_wires work_one end_state
run_on_wires s [] = refl
run_on_wires s (call ∷ calls) =
    run_on_wires (host_step s call).1 calls
    ∙ ap (λ (p : PartState). end_state p (on_wires (host_step s call).1 calls)) (one_on_wires s call)
    ∙ sym (in_parts s.part (wire_calls_of s call) (on_wires (host_step s call).1 calls))

-- the list on the wires begins with what its first calls make there
in_part : (s : HostState) (earlier later : List HostCall) → on_wires s (earlier ++ later) ≡ on_wires s earlier ++ on_wires (host_run s earlier).1 later
unfolding host_run on_wires
in_part s [] later = refl
in_part s (call ∷ earlier) later =
    ap (λ (calls : List WireCall). wire_calls_of s call ++ calls) (in_part (work_one s call).1 earlier later)
    ∙ sym (append_assoc (wire_calls_of s call) (on_wires (work_one s call).1 earlier) (on_wires (host_run (work_one s call).1 earlier).1 later))

-- and so does its log
log_in_parts : (start : PartState) (log : Log part_machine) (xs ys : List WireCall) → log_with part_machine start log (xs ++ ys) ≡ log_with part_machine start (log_with part_machine start log xs) ys
unfolding log_with
log_in_parts start log [] ys = refl
log_in_parts start log (x ∷ xs) ys = log_in_parts start (hear part_machine start log x ∷ log) xs ys

log_goes_on : (start : PartState) (log : Log part_machine) (calls : List WireCall) → (later : Log part_machine) × (log_with part_machine start log calls ≡ later ++ log)
unfolding log_with
log_goes_on start log [] = ([], refl)
log_goes_on start log (call ∷ calls) =
    let h = hear part_machine start log call in
    let on = log_goes_on start (h ∷ log) calls in
    (on.0 ++ (h ∷ []), on.1 ∙ sym (append_assoc on.0 (h ∷ []) log))

pub levels_after_each_call : (s : HostState) (calls : List HostCall) → LevelsAfterEachCall s calls
levels_after_each_call s calls earlier later e =
    let begins : on_wires s calls ≡ on_wires s earlier ++ on_wires (host_run s earlier).1 later = ap (on_wires s) e ∙ in_part s earlier later in
    let on = log_goes_on s.part (log_of part_machine s.part (on_wires s earlier)) (on_wires (host_run s earlier).1 later) in
    record {
      part = run_on_wires s earlier ∙ sym (ends_at s.part (on_wires s earlier));
      rest = on_wires (host_run s earlier).1 later;
      begins = begins;
      later = on.0;
      heard = ap (log_of part_machine s.part) begins ∙ log_in_parts s.part [] (on_wires s earlier) (on_wires (host_run s earlier).1 later) ∙ on.1;
    }

-- the list call by call
pub run_none : (s : HostState) → host_run s [] ≡ ([], s)
unfolding host_run
run_none s = refl

run_push : (s : HostState) (calls : List HostCall) (call : HostCall) → host_run s (calls ++ call ∷ []) ≡ ((host_run s calls).0 ++ (work_one (host_run s calls).1 call).0 ∷ [], (work_one (host_run s calls).1 call).1)
unfolding host_run
run_push s [] call = refl
run_push s (c ∷ calls) call =
    ap (λ (r : List Answered × HostState). ((work_one s c).0 ∷ r.0, r.1)) (run_push (work_one s c).1 calls call)

pub run_more : (s t u : HostState) (calls more : List HostCall) (call : HostCall) (answers longer : List Answered) (answer : Answered) → more ≡ calls ++ (call ∷ []) → host_run s calls ≡ (answers, t) → ◌≡◌ {A = Answered × HostState} (answer, u) (work_one t call) → longer ≡ answers ++ (answer ∷ []) → host_run s more ≡ (longer, u)
run_more s t u calls more call answers longer answer e before done pushed =
    ap (host_run s) e
    ∙ run_push s calls call
    ∙ ap (λ (r : List Answered × HostState). (r.0 ++ (work_one r.1 call).0 ∷ [], (work_one r.1 call).1)) before
    ∙ ap (λ (d : Answered × HostState). (answers ++ d.0 ∷ [], d.1)) (sym done)
    ∙ ap (λ (l : List Answered). (l, u)) (sym pushed)
