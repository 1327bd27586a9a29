-- The calls of a 348A as a list has them: what each answers and leaves, and what an onlooker makes of it.
use Rattle.std.specs.Prelude.{ℕ, cond, List, [], ◌∷◌, Ok, Err, Result, nat_lt}
use Rattle.refusals.specs.declared.Refusal.{Refusal}
use Rattle.refusals.specs.declared.Refusal.TheVariants.{ShortBuffer}
use Rattle.register_map.specs.declared.hour_mode.HourMode.{HourMode}
use Rattle.clock_core.specs.Core.{Accepted as Acceptance}
use Rattle.serial_transfer.specs.Levels.{out_number}
use Rattle.rx5c_registers.specs.File.{registers}
use Rattle.rx5c348a.specs.declared.pins.PinAnswer.{PinAnswer}
use Rattle.rx5c348a.specs.Part.{PartState, load_part, pulse_part}
use Rattle.rx5c348a.specs.Pins.{Move, move_of, pins_part}
use Rattle.timekeeping.specs.CoreCalls.{cells_of}
use Rattle.timekeeping.specs.Logs.{Sight, Took, Wrote, Gave, Nothing, Heard, Machine}
use Rattle.rx5c348a_runs.specs.declared.call.WireCall.{WireCall}
use Rattle.rx5c348a_runs.specs.declared.call.WireCall.TheVariants.{Load, Pulses, Pins, Look}
use Rattle.rx5c348a_runs.specs.declared.call.WireAnswer.{WireAnswer}
use Rattle.rx5c348a_runs.specs.declared.call.WireAnswer.TheVariants.{Accepted, Levels, Registers}
use Rattle.rx5c348a_runs.specs.Onlooker.{Notes, silent, noted, move_sight}

-- What a call answers: what an accepted one gives, or why it is refused.
abbrev pub Answered : Type 0
Answered = Result WireAnswer Refusal

abbrev pub acceptance : Acceptance → Answered
acceptance (Ok _) = Ok Accepted
acceptance (Err why) = Err why

abbrev pub levels_answered : Result PinAnswer Refusal → Answered
levels_answered (Ok answer) = Ok (Levels answer)
levels_answered (Err why) = Err why

abbrev pub registers_seen : PartState → ℕ → Answered
registers_seen p room = cond (nat_lt room 16) (Err ShortBuffer) (Ok (Registers (registers p.file)))

-- One call: its answer, and the part after it.
abbrev pub do_call : PartState → WireCall → Answered × PartState
do_call p (Load to) =
    (acceptance (load_part p to.moment to.weekday to.trim to.mode).0, (load_part p to.moment to.weekday to.trim to.mode).1)
do_call p (Pulses n) = (acceptance (pulse_part p n).0, (pulse_part p n).1)
do_call p (Pins levels) = (levels_answered (pins_part p levels).0, (pins_part p levels).1)
do_call p (Look room) = (registers_seen p room, p)

-- the same, as a list is worked call by call
unfoldable pub work_one : PartState → WireCall → Answered × PartState
work_one p call = do_call p call

-- What an onlooker notes of a call and its answer: of accepted levels the move that they are
-- from those he noted last; an accepted load lowers the pins.
abbrev pub load_noted : Answered → Notes → Notes
load_noted (Ok Accepted) e = silent
load_noted _ e = e

abbrev pub pins_noted : Move → Answered → Notes → Notes
pins_noted move (Ok (Levels answer)) e = noted e move (out_number answer.so)
pins_noted move _ e = e

-- the move of new levels, as he has it
abbrev pub move_heard : Notes → ℕ → Move
move_heard e levels = move_of e.ce e.sclk levels

abbrev pub note : WireCall → Answered → Notes → Notes
note (Load _) answer e = load_noted answer e
note (Pins levels) answer e = pins_noted (move_heard e levels) answer e
note _ answer e = e

unfoldable pub notes : List (Heard WireCall Answered) → Notes
notes [] = silent
notes (h ∷ log) = note h.call h.answer (notes log)

-- What he makes of it. A refused call is nothing.
abbrev pub load_sight : Answered → Sight
load_sight (Ok Accepted) = Wrote
load_sight _ = Nothing

abbrev pub pulses_sight : ℕ → Answered → Sight
pulses_sight n (Ok Accepted) = Took n
pulses_sight n _ = Nothing

abbrev pub pins_sight : HourMode → Notes → Move → Answered → Sight
pins_sight mode e move (Ok (Levels answer)) = move_sight mode e move (out_number answer.so)
pins_sight mode e move _ = Nothing

abbrev pub look_sight : Answered → Sight
look_sight (Ok (Registers row)) = Gave (cells_of 7 row)
look_sight _ = Nothing

abbrev pub call_sight : HourMode → Notes → WireCall → Answered → Sight
call_sight mode e (Load _) answer = load_sight answer
call_sight mode e (Pulses n) answer = pulses_sight n answer
call_sight mode e (Pins levels) answer = pins_sight mode e (move_heard e levels) answer
call_sight mode e (Look _) answer = look_sight answer

-- The part over its own map.
abbrev pub part_machine : Machine
part_machine =
    record {
      Call = WireCall;
      Answer = Answered;
      State = PartState;
      step = work_one;
      core = λ p. p.file.core;
      sight = λ mode before h. call_sight mode (notes before) h.call h.answer;
    }
