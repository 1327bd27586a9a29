-- What a call on a record answers, and what is in the record after it.
use Rattle.std.specs.Prelude.{ℕ, ◌+◌, Some, None, Option, Ok, Err, Result, List}
use Rattle.refusals.specs.declared.Refusal.{Refusal}
use Rattle.refusals.specs.Numbers.{number_of}
use Rattle.clock_core.specs.Core.{Accepted}

-- refusal 255: the record is no saved state of the part
abbrev pub no_saved_state : ℕ
no_saved_state = 511

abbrev pub refused : Refusal → ℕ
refused why = 256 + number_of why

-- an answer as one number
abbrev pub counted : Result ℕ Refusal → ℕ
counted (Ok number) = number
counted (Err why) = refused why

-- a call that answers only that it was accepted
abbrev pub done : Accepted → Result ℕ Refusal
done (Ok _) = Ok 0
done (Err why) = Err why

-- An accepted call leaves the part saved; a refused one leaves the record as it was.
abbrev pub kept : {Record State : Type 0} → (State → Record) → Record → Result ℕ Refusal × State → ℕ × Record
kept save r (Ok number, state) = (number, save state)
kept save r (Err why, state) = (refused why, r)

-- A call on a record: the part is restored, called, and saved. A record that is no saved state is refused and left.
abbrev pub on_restored : {Record State : Type 0} → (State → Record) → Record → Option State → (State → Result ℕ Refusal × State) → ℕ × Record
on_restored save r None call = (no_saved_state, r)
on_restored save r (Some state) call = kept save r (call state)

-- A call that only looks: its answer, and the buffer after it.
abbrev pub shown_in : Accepted × List ℕ → ℕ × List ℕ
shown_in (Ok _, buffer) = (0, buffer)
shown_in (Err why, buffer) = (refused why, buffer)
