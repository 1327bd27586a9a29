-- What a whole tape does on a part.
use Rattle.std.specs.Prelude.{ℕ, ◌*◌, cond, List, [], length, Err, vec_items, nat_lt}
use Rattle.lines.specs.declared.origin.Origin.TheVariants.{Tape}
use Rattle.refusals.specs.declared.Refusal.TheVariants.{TapeTooLong}
use Rattle.rx5c348a.specs.Part.{PartState}
use Rattle.tape.specs.declared.fault.TapeFault.{TapeFault}
use Rattle.tape.specs.declared.play.Playback.{Playback}
use Rattle.tape.specs.Playing.{Outcome, bench, play_rest}

-- the fault of too long a tape stands at the first byte too many
abbrev pub too_long : TapeFault
too_long = record { refusal = TapeTooLong; place = 4096; origin = Tape }

-- Too long a tape plays nothing; any other is played from its first byte on, with nothing printed yet.
abbrev pub play_tape : List ℕ → PartState → Outcome
play_tape tape part = cond (nat_lt 4096 (length tape)) (Err too_long, bench part []) (play_rest (length tape) tape (bench part []))

-- The room that a tape is given: 27 bytes for each of its bytes, as a print record has two and
-- prints at most 54. Too long a tape is given none.
abbrev pub room_for : List ℕ → ℕ
room_for tape = cond (nat_lt 4096 (length tape)) 0 (27 * length tape)

-- what the code answers, with the part as it is then
abbrev pub played : Playback → PartState → Outcome
played p part = (p.end, bench part (vec_items p.printed))
