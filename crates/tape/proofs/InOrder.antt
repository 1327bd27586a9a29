-- A tape does the records that write it in order.
use Rattle.std.proofs.Common.{◌≡◌, ℕ, ◌+◌, ◌-◌, ◌^◌, ◌<◌, ◌≤◌, List, [], ◌∷◌, ◌++◌, length, Ok, Err, Result, refl, ap, ◌∙◌, append_assoc, arith}
use Rattle.std.proofs.lemmas.List.{length-append}
use Rattle.std.proofs.lemmas.Bool.{cond-false, le-ltb}
use Rattle.refusals.specs.declared.Refusal.{Refusal}
use Rattle.rx5c348a.specs.Part.{PartState}
use Rattle.tape.specs.declared.fault.TapeFault.{TapeFault}
use Rattle.tape.specs.declared.record.Record.{Record}
use Rattle.tape.specs.declared.record.Record.TheVariants.{Load, Pulses, Levels, Print}
use Rattle.tape.specs.declared.record.TapeRefusal.{TapeRefusal}
use Rattle.tape.specs.Playing.{Bench, Outcome, bench, do_record, do_read, done_before, rest_after, one_record, place_fault, with_place, go_on, then_on, play_rest}
use Rattle.tape.specs.Records.{RecordRead}
use Rattle.tape.specs.Tapes.{play_tape}
use Rattle.tape.specs.Written.{record_bytes, number_in, tape_of, Writable, next_record, do_records, unless_refused, and_then, WrittenAs, Ends, ended, InOrder}
use Rattle.tape.proofs.Coding.{record_read_back}
use Rattle.tape.proofs.Cutting.{Bytes, every_tape_is_cut}
use Rattle.tape.proofs.Stepping.{plays_on, plays_out}

record_bytes_some : (r : Record) (more : List ℕ) → 0 < length (record_bytes r ++ more)
record_bytes_some (Load moment) more = omega arith
record_bytes_some (Pulses count) more = omega arith
record_bytes_some (Levels levels) more = omega arith
record_bytes_some (Print number) more = omega arith

-- one written record is done, and the tape goes on after it
first_record : (total place : ℕ) (r : Record) (more : List ℕ) (b : Bench) → number_in r < 2 ^ 35 → place + length (record_bytes r ++ more) ≡ total → play_rest total (record_bytes r ++ more) b ≡ then_on (play_rest total) (with_place place (done_before more (do_record r b)))
first_record total place r more b fits here =
    let bytes = record_bytes r ++ more in
    let at_its_place : total - length bytes ≡ place = omega arith in
    plays_on total bytes b (record_bytes_some r more) ∙ ap (λ p. then_on (play_rest total) (with_place p (one_record bytes b))) at_its_place ∙ ap (λ (x : RecordRead). then_on (play_rest total) (with_place place (do_read x b))) (record_read_back r more fits)

records_then_rest : (total place : ℕ) (records : List Record) (rest : List ℕ) (b : Bench) → Writable records → place + length (tape_of records ++ rest) ≡ total → play_rest total (tape_of records ++ rest) b ≡ and_then (do_records place records b) (play_rest total rest)
unfolding do_records
records_then_rest total place [] rest b fits here = refl
records_then_rest total place (r ∷ rs) rest b fits here =
    let more = tape_of rs ++ rest in
    let joint = append_assoc (record_bytes r) (tape_of rs) rest in
    let long = ap length joint in
    ap (λ l. play_rest total l b) joint ∙ first_record total place r more b fits.0 (omega arith) ∙ by_answer (do_record r b).0 (do_record r b).1 (λ after. records_then_rest total (place + length (record_bytes r)) rs rest after fits.1 (omega (arith, length-append (record_bytes r) more)))
  where
    by_answer : (answer : Result (Unit {0}) Refusal) (after : Bench) → ((after : Bench) → play_rest total (tape_of rs ++ rest) after ≡ and_then (do_records (place + length (record_bytes r)) rs after) (play_rest total rest)) → go_on (play_rest total) (place_fault place (rest_after (tape_of rs ++ rest) answer)) after ≡ and_then (next_record place (do_records (place + length (record_bytes r)) rs) answer after) (play_rest total rest)
    by_answer (Ok done) after others = others after
    by_answer (Err refusal) after others = refl

-- what follows may be said in two ways
same_next : (outcome : Outcome) (next also : Bench → Outcome) → ((b : Bench) → next b ≡ also b) → and_then outcome next ≡ and_then outcome also
same_next outcome next also same = by_end outcome.0
  where
    by_end : (end : Result (Unit {0}) TapeFault) → unless_refused next end outcome.1 ≡ unless_refused also end outcome.1
    by_end (Ok done) = same outcome.1
    by_end (Err fault) = refl

-- a rest that begins with no record ends the tape
rest_ends : (total place : ℕ) (rest : List ℕ) (how : Result (Unit {0}) TapeRefusal) (b : Bench) → Ends rest how → place + length rest ≡ total → play_rest total rest b ≡ ended place how b
rest_ends total place rest (Ok done) b none here = plays_out total rest b (ap length none)
rest_ends total place rest (Err refused) b unread here =
    let at_its_place : total - length rest ≡ place = omega arith in
    plays_on total rest b unread.0 ∙ ap (λ p. then_on (play_rest total) (with_place p (one_record rest b))) at_its_place ∙ ap (λ (x : RecordRead). then_on (play_rest total) (with_place place (do_read x b))) unread.1

-- Of a tape that is short enough.
module _ (tape : List ℕ) (part : PartState) (short : length tape ≤ 4096) where
  plays_whole : play_tape tape part ≡ play_rest (length tape) tape (bench part [])
  plays_whole = cond-false _ _ _ (le-ltb 4096 (length tape) short)

  module _ (records : List Record) (rest : List ℕ) (w : WrittenAs tape records rest) where
    does_records : play_tape tape part ≡ and_then (do_records 0 records (bench part [])) (play_rest (length tape) rest)
    does_records =
        plays_whole ∙ ap (λ l. play_rest (length tape) l (bench part [])) w.whole ∙ records_then_rest (length tape) 0 records rest (bench part []) w.numbers (omega (arith, ap length w.whole))

    does_all : (how : Result (Unit {0}) TapeRefusal) → Ends rest how → play_tape tape part ≡ and_then (do_records 0 records (bench part [])) (ended (length (tape_of records)) how)
    does_all how ends =
        does_records ∙ same_next (do_records 0 records (bench part [])) (play_rest (length tape) rest) (ended (length (tape_of records)) how) (λ b. rest_ends (length tape) (length (tape_of records)) rest how b ends (omega (arith, ap length w.whole, length-append (tape_of records) rest)))

-- The law of whole tapes, for what the defined play gives; a tape that is too long is only said to be written.
pub in_order : (tape : List ℕ) (part : PartState) (outcome : Outcome) → Bytes tape → outcome ≡ play_tape tape part → InOrder tape part outcome
in_order tape part outcome are is =
    record {
      goes_on = λ records rest w short. is ∙ does_records tape part short records rest w;
      ends = λ records rest how w ends short. is ∙ does_all tape part short records rest w how ends;
      written = every_tape_is_cut tape are;
    }
