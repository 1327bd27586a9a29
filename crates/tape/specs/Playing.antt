-- What a tape does: its records are done one after the other on the part, printing in order, until the tape ends or a record is refused.
use Rattle.std.specs.Prelude.{ℕ, zero, suc, ◌-◌, ◌/◌, ◌%◌, List, [], ◌∷◌, ◌++◌, length, drop, Ok, Err, Result}
use Rattle.std.specs.Borrow.{Bor}
use Rattle.lines.specs.Lines.{record_text}
use Rattle.refusals.specs.declared.Refusal.{Refusal}
use Rattle.rx5c348a.specs.Part.{PartState, load_part, pulse_part}
use Rattle.rx5c348a.specs.Pins.{pins_part}
use Rattle.rx5c348a.specs.declared.pins.PinAnswer.{PinAnswer}
use Rattle.rx5c_registers.specs.File.{registers}
use Rattle.tape.specs.declared.fault.RecordFault.{RecordFault}
use Rattle.tape.specs.declared.fault.TapeFault.{TapeFault}
use Rattle.tape.specs.declared.record.Record.{Record}
use Rattle.tape.specs.declared.record.Record.TheVariants.{Load, Pulses, Levels, Print}
use Rattle.tape.specs.Faults.{of_tape, of_part, at_place}
use Rattle.tape.specs.Records.{RecordRead, read_record}

-- The part and the bytes printed so far.
pub record Bench : Type 0 where
  pub part : PartState
  pub printed : List ℕ

-- a part with what was printed
abbrev pub bench : PartState → List ℕ → Bench
bench part printed = record { part = part; printed = printed }

-- What the part answers to a record, and the bench after it.
abbrev pub Done : Type 0
Done = Result (Unit {0}) Refusal × Bench

-- the weekday of a moment that a tape loads: 0 on the first day
abbrev pub tape_weekday : ℕ → ℕ
tape_weekday moment = (moment / 86400) % 7

-- a call on the part prints nothing
abbrev pub on_part : Bench → Result (Unit {0}) Refusal × PartState → Done
on_part b did = (did.0, bench did.1 b.printed)

-- a tape does not look at what the pins answer
abbrev pub unprinted : Result PinAnswer Refusal → Result (Unit {0}) Refusal
unprinted (Ok answer) = Ok tt
unprinted (Err refusal) = Err refusal

-- pin levels, as they stand in the record
abbrev pub give_levels : PartState → ℕ → Result (Unit {0}) Refusal × PartState
give_levels part levels = (unprinted (pins_part part levels).0, (pins_part part levels).1)

-- a line is added to what is printed; the part stays as it is
unfoldable pub printing : ℕ → Bench → Done
printing number b = (Ok tt, bench b.part (b.printed ++ record_text number (registers b.part.file)))

-- what one record does: a load takes trim 0 and 24 hours
abbrev pub do_record : Record → Bench → Done
do_record (Load moment) b = on_part b (load_part b.part moment (tape_weekday moment) 0 1)
do_record (Pulses count) b = on_part b (pulse_part b.part count)
do_record (Levels levels) b = on_part b (give_levels b.part levels)
do_record (Print number) b = printing number b

-- The rest of the tape after one record, or why the record is refused; and the bench after it.
abbrev pub Stepped : Type 0
Stepped = Result (List ℕ) RecordFault × Bench

-- the rest of the tape after a record that was done, or the part's refusal
abbrev pub rest_after : List ℕ → Result (Unit {0}) Refusal → Result (List ℕ) RecordFault
rest_after rest (Ok done) = Ok rest
rest_after rest (Err refusal) = Err (of_part refusal)

-- a record that the part was asked for, before the rest of the tape
abbrev pub done_before : List ℕ → Done → Stepped
done_before rest did = (rest_after rest did.0, did.1)

-- a record that cannot be read is refused by the tape, and nothing is done
abbrev pub do_read : RecordRead → Bench → Stepped
do_read (Ok read) b = done_before read.1 (do_record read.0 b)
do_read (Err refused) b = (Err (of_tape refused), b)

-- one record from the front of the tape is read and done
abbrev pub one_record : List ℕ → Bench → Stepped
one_record bytes b = do_read (read_record bytes) b

-- how many bytes a record printed, where it was done
abbrev pub printed_count : ℕ → Result (Unit {0}) Refusal → Result ℕ Refusal
printed_count count (Ok done) = Ok count
printed_count count (Err refusal) = Err refusal

abbrev pub with_count : ℕ → Result (List ℕ) RecordFault → Result (ℕ × List ℕ) RecordFault
with_count count (Ok rest) = Ok (count, rest)
with_count count (Err fault) = Err fault

-- a text at the front of a buffer, the rest of which stays
abbrev pub in_front : List ℕ → List ℕ → List ℕ
in_front text buffer = text ++ drop (length text) buffer

-- A record done by itself: how many bytes it prints, the part, and the line with them at its front.
abbrev pub count_printed : Done → List ℕ → Result ℕ Refusal × PartState × List ℕ
count_printed did line =
    (printed_count (length did.1.printed) did.0, did.1.part, in_front did.1.printed line)

abbrev pub perform_record : Record → PartState → List ℕ → Result ℕ Refusal × PartState × List ℕ
perform_record r part line = count_printed (do_record r (bench part [])) line

-- One record of a tape played by itself: what it prints, the rest of the tape, part and line.
abbrev pub RecordPlayed : Type 0
RecordPlayed = Result (ℕ × List ℕ) RecordFault × PartState × List ℕ

abbrev pub count_step : Stepped → List ℕ → RecordPlayed
count_step did line =
    (with_count (length did.1.printed) did.0, did.1.part, in_front did.1.printed line)

abbrev pub play_one : List ℕ → PartState → List ℕ → RecordPlayed
play_one bytes part line = count_step (one_record bytes (bench part [])) line

-- what the code answers, with the bytes that it points to
abbrev pub step_view : Result (ℕ × Bor (List ℕ)) RecordFault → Result (ℕ × List ℕ) RecordFault
step_view (Ok step) = Ok (step.0, step.1.now)
step_view (Err fault) = Err fault

-- a fault has the place of its record
abbrev pub place_fault : ℕ → Result (List ℕ) RecordFault → Result (List ℕ) TapeFault
place_fault place (Ok rest) = Ok rest
place_fault place (Err fault) = Err (at_place place fault)

-- the same, with the bench
abbrev pub with_place : ℕ → Stepped → Result (List ℕ) TapeFault × Bench
with_place place did = (place_fault place did.0, did.1)

-- How a tape ended, and the bench then.
abbrev pub Outcome : Type 0
Outcome = Result (Unit {0}) TapeFault × Bench

-- after a record the tape goes on with its rest; a fault ends it
abbrev pub go_on : (List ℕ → Bench → Outcome) → Result (List ℕ) TapeFault → Bench → Outcome
go_on on (Ok rest) b = on rest b
go_on on (Err fault) b = (Err fault, b)

-- the same, on what a record has left
abbrev pub then_on : (List ℕ → Bench → Outcome) → Result (List ℕ) TapeFault × Bench → Outcome
then_on on did = go_on on did.0 did.1

-- The records of `bytes`, the last bytes of a tape of `total`: at most `turns` of them, which is enough where there are no more bytes than turns.
unfoldable pub play_from : ℕ → ℕ → List ℕ → Bench → Outcome
play_from zero total bytes b = (Ok tt, b)
play_from (suc turns) total [] b = (Ok tt, b)
play_from (suc turns) total (x ∷ xs) b = then_on (play_from turns total) (with_place (total - length (x ∷ xs)) (one_record (x ∷ xs) b))

-- the last bytes of a tape of `total`, to its end
abbrev pub play_rest : ℕ → List ℕ → Bench → Outcome
play_rest total bytes b = play_from (length bytes) total bytes b

-- what the code answers to one record, with the rest that it leaves
abbrev pub rest_after_step : {E : Type 0} → Result (Unit {0}) E → List ℕ → Result (List ℕ) E
rest_after_step (Ok done) rest = Ok rest
rest_after_step (Err fault) rest = Err fault
