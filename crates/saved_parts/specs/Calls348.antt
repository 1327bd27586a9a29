-- The calls of a 348A on its record: the part's own call between restoring and saving.
use Rattle.std.specs.Prelude.{ℕ, ◌+◌, ◌*◌, List, Some, None, Option, Ok, Err, Result}
use Rattle.refusals.specs.declared.Refusal.{Refusal}
use Rattle.serial_transfer.specs.Levels.{out_number}
use Rattle.rx5c348a.specs.declared.pins.PinAnswer.{PinAnswer}
use Rattle.rx5c348a.specs.Part.{PartState, power_on, load_part, halt_part, pulse_part, look_part}
use Rattle.rx5c348a.specs.Pins.{level_number, pins_part}
use Rattle.saved_parts.specs.declared.part348.Saved348.{Saved348}
use Rattle.saved_parts.specs.Answers.{no_saved_state, done, on_restored, shown_in}
use Rattle.saved_parts.specs.Part348.{saved, restored}

-- whatever the record was
abbrev pub powered_on : ℕ × Saved348
powered_on = (0, saved power_on)

abbrev pub on_part : Saved348 → (PartState → Result ℕ Refusal × PartState) → ℕ × Saved348
on_part r call = on_restored saved r (restored r) call

abbrev pub loaded : Saved348 → ℕ → ℕ → ℕ → ℕ → ℕ × Saved348
loaded r moment weekday trim mode = on_part r (λ p. (done (load_part p moment weekday trim mode).0, (load_part p moment weekday trim mode).1))

abbrev pub halted : Saved348 → ℕ × Saved348
halted r = on_part r (λ p. (Ok 0, halt_part p))

abbrev pub pulsed : Saved348 → ℕ → ℕ × Saved348
pulsed r count = on_part r (λ p. (done (pulse_part p count).0, (pulse_part p count).1))

-- SO, and /INTR in bit 2
abbrev pub pins_counted : PinAnswer → ℕ
pins_counted answer = out_number answer.so + 4 * level_number answer.intr

abbrev pub pins_answered : Result PinAnswer Refusal → Result ℕ Refusal
pins_answered (Ok answer) = Ok (pins_counted answer)
pins_answered (Err why) = Err why

abbrev pub driven : Saved348 → ℕ → ℕ × Saved348
driven r levels = on_part r (λ p. (pins_answered (pins_part p levels).0, (pins_part p levels).1))

abbrev pub looked_at : Option PartState → List ℕ → ℕ × List ℕ
looked_at None buffer = (no_saved_state, buffer)
looked_at (Some p) buffer = shown_in (look_part p buffer)

abbrev pub looked : Saved348 → List ℕ → ℕ × List ℕ
looked r buffer = looked_at (restored r) buffer
