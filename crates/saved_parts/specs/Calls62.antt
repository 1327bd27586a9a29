-- The calls of a 62X42 on its record: the part's own call between restoring and saving.
use Rattle.std.specs.Prelude.{ℕ, List, Some, None, Option, Ok, Result}
use Rattle.refusals.specs.declared.Refusal.{Refusal}
use Rattle.clock_core.specs.Core.{CoreState}
use Rattle.msm62x42.specs.Part.{power_on, load_part, pulse_part, read_part, write_part, deselected, look_part}
use Rattle.saved_parts.specs.declared.part62.Saved62.{Saved62}
use Rattle.saved_parts.specs.Answers.{no_saved_state, counted, done, on_restored, shown_in}
use Rattle.saved_parts.specs.Part62.{saved, restored}

-- whatever the record was
abbrev pub powered_on : ℕ × Saved62
powered_on = (0, saved power_on)

abbrev pub on_part : Saved62 → (CoreState → Result ℕ Refusal × CoreState) → ℕ × Saved62
on_part r call = on_restored saved r (restored r) call

abbrev pub loaded : Saved62 → ℕ → ℕ → ℕ → ℕ × Saved62
loaded r moment weekday mode = on_part r (λ p. (done (load_part p moment weekday mode).0, (load_part p moment weekday mode).1))

abbrev pub pulsed : Saved62 → ℕ → ℕ × Saved62
pulsed r count = on_part r (λ p. (done (pulse_part p count).0, (pulse_part p count).1))

abbrev pub register_written : Saved62 → ℕ → ℕ → ℕ × Saved62
register_written r address number = on_part r (λ p. (done (write_part p address number).0, (write_part p address number).1))

abbrev pub let_go : Saved62 → ℕ × Saved62
let_go r = on_part r (λ p. (Ok 0, deselected p))

-- a call that only reads leaves the record alone
abbrev pub read_from : Option CoreState → ℕ → ℕ
read_from None address = no_saved_state
read_from (Some p) address = counted (read_part p address)

abbrev pub register_read : Saved62 → ℕ → ℕ
register_read r address = read_from (restored r) address

abbrev pub looked_at : Option CoreState → List ℕ → ℕ × List ℕ
looked_at None buffer = (no_saved_state, buffer)
looked_at (Some p) buffer = shown_in (look_part p buffer)

abbrev pub looked : Saved62 → List ℕ → ℕ × List ℕ
looked r buffer = looked_at (restored r) buffer
