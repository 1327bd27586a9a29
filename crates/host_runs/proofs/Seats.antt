-- A call of the session at a number, as the code's sessions have it.
use Rattle.std.proofs.Common.{◌≡◌, ℕ, ◌<◌, ◌≤◌, List, length, get_or, set, Ok, sym, ap, ◌∙◌}
use Rattle.std.specs.Option.{option_map}
use Rattle.std.proofs.lemmas.List.{map-set}
use Rattle.std.proofs.lemmas.Option.{slice_get-map, slice_get_past, slice_get-get_or}
use Rattle.rx5c348a.specs.Part.{PartState}
use Rattle.host_runs.specs.declared.call.SessionCall.{SessionCall}
use Rattle.host_runs.specs.declared.call.HostAnswer.TheVariants.{NoSuchSession}
use Rattle.host_runs.specs.declared.session.HostSession.{HostSession}
use Rattle.host_runs.specs.Hosts.{Answered, Seat, seat, stepped, session_step, HostState, host_state, standing, session_after, seat_call, session_call}

module _ (sessions : List HostSession) (p : PartState) (buffer : List ℕ) (number : ℕ) (call : SessionCall) where
  -- a number that no session has
  pub no_session : length sessions ≤ number
      → ◌≡◌ {A = Answered × HostState} (Ok NoSuchSession, standing sessions p buffer) (session_call (standing sessions p buffer) number call)
  unfolding session_call
  no_session past =
      ap (seat_call (standing sessions p buffer) number call) (sym
      (slice_get-map seat sessions number ∙ ap (option_map seat) (slice_get_past sessions number past)))

  -- a session that has stepped in its place
  pub stepped_there : (left d : HostSession) (answer : Answered) (q : PartState) (filled : List ℕ)
      → number < length sessions
      → stepped answer (seat left) q filled ≡ session_step (seat (get_or sessions number d)) p buffer call
      → ◌≡◌ {A = Answered × HostState} (answer, standing (set sessions number left) q filled) (session_call (standing sessions p buffer) number call)
  unfolding session_call
  stepped_there left d answer q filled among is =
      sym
      (ap (seat_call (standing sessions p buffer) number call)
      (slice_get-map seat sessions number ∙ ap (option_map seat) (slice_get-get_or sessions number d among))
      ∙ ap (session_after (standing sessions p buffer) number) (sym is)
      ∙ ap (λ (s : List Seat). (answer, host_state s q filled)) (sym (map-set seat sessions number left)))
