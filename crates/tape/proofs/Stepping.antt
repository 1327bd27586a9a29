-- A tape is played record by record: each leaves fewer bytes, and what is left to play gives the whole.
use Rattle.std.proofs.Common.{◌≡◌, ℕ, zero, suc, ◌+◌, ◌-◌, ◌<◌, ◌≤◌, Bool, true, false, eqb, List, [], ◌∷◌, ◌++◌, length, take, drop, IfOk, Ok, Err, Result, vec_items, vec_capacity, sym, refl, ap, ◌∙◌, arith}
use Rattle.std.specs.Prelude.{Vec}
use Rattle.std.specs.declared.alloc.Global.{Global}
use Rattle.std.proofs.lemmas.List.{append-nil}
use Rattle.std.proofs.lemmas.Bool.{eqb-true, eqb-false}
use Rattle.std.proofs.Math.Seq.{take-append_seam}
use Rattle.refusals.specs.declared.Refusal.{Refusal}
use Rattle.rx5c348a.specs.Part.{PartState, load_part, pulse_part}
use Rattle.tape.specs.declared.fault.RecordFault.{RecordFault}
use Rattle.tape.specs.declared.record.Record.{Record}
use Rattle.tape.specs.declared.record.Record.TheVariants.{Load, Pulses, Levels, Print}
use Rattle.tape.specs.Faults.{of_tape, of_part}
use Rattle.tape.specs.Playing.{Bench, Outcome, Done, Stepped, RecordPlayed, bench, tape_weekday, give_levels, printing, do_record, do_read, done_before, rest_after, one_record, in_front, count_printed, perform_record, count_step, play_one, place_fault, with_place, go_on, then_on, play_from, play_rest}
use Rattle.tape.specs.Records.{RecordRead, read_record}
use Rattle.tape.proofs.Reading.{record_shortens}

-- a record that was done leaves fewer bytes
pub step_shortens : (bytes : List ℕ) (b : Bench) → IfOk (one_record bytes b).0 (λ rest. length rest + 2 ≤ length bytes)
step_shortens bytes b = by_read (read_record bytes) (record_shortens bytes)
  where
    by_answer : (rest : List ℕ) (answer : Result (Unit {0}) Refusal) → length rest + 2 ≤ length bytes → IfOk (rest_after rest answer) (λ rest. length rest + 2 ≤ length bytes)
    by_answer rest (Ok done) h = h
    by_answer rest (Err refusal) h = tt

    by_read : (x : RecordRead) → IfOk x (λ read. length read.1 + 2 ≤ length bytes) → IfOk (do_read x b).0 (λ rest. length rest + 2 ≤ length bytes)
    by_read (Ok read) h = by_answer read.1 (do_record read.0 b).0 h
    by_read (Err refused) h = tt

-- two ways to go on that agree on every shorter rest
same_on : (on also : List ℕ → Bench → Outcome) (place size : ℕ) (r : Result (List ℕ) RecordFault) (b : Bench) → IfOk r (λ rest. length rest + 2 ≤ size) → ((rest : List ℕ) → length rest + 2 ≤ size → on rest b ≡ also rest b) → go_on on (place_fault place r) b ≡ go_on also (place_fault place r) b
same_on on also place size (Ok rest) b short agree = agree rest short
same_on on also place size (Err fault) b short agree = refl

-- turns beyond the number of bytes change nothing
turns_enough : (turns more total : ℕ) (bytes : List ℕ) (b : Bench) → length bytes ≤ turns → length bytes ≤ more → play_from turns total bytes b ≡ play_from more total bytes b
unfolding play_from
turns_enough zero zero total bytes b few also_few = refl
turns_enough zero (suc more) total [] b few also_few = refl
turns_enough zero (suc more) total (x ∷ xs) b few also_few = absurd (omega arith)
turns_enough (suc turns) zero total [] b few also_few = refl
turns_enough (suc turns) zero total (x ∷ xs) b few also_few = absurd (omega arith)
turns_enough (suc turns) (suc more) total [] b few also_few = refl
turns_enough (suc turns) (suc more) total (x ∷ xs) b few also_few =
    same_on (play_from turns total) (play_from more total) (total - length (x ∷ xs)) (length (x ∷ xs)) (one_record (x ∷ xs) b).0 (one_record (x ∷ xs) b).1 (step_shortens (x ∷ xs) b)
    (λ rest short. turns_enough turns more total rest (one_record (x ∷ xs) b).1 (omega arith) (omega arith))

-- The rest of a tape, from its first record on.
pub plays_on : (total : ℕ) (bytes : List ℕ) (b : Bench) → 0 < length bytes → play_rest total bytes b ≡ then_on (play_rest total) (with_place (total - length bytes) (one_record bytes b))
unfolding play_from
plays_on total [] b some = absurd (omega arith)
plays_on total (x ∷ xs) b some =
    same_on (play_from (length xs) total) (play_rest total) (total - length (x ∷ xs)) (length (x ∷ xs)) (one_record (x ∷ xs) b).0 (one_record (x ∷ xs) b).1 (step_shortens (x ∷ xs) b)
    (λ rest short. turns_enough (length xs) (length rest) total rest (one_record (x ∷ xs) b).1 (omega arith) (omega arith))

pub plays_out : (total : ℕ) (bytes : List ℕ) (b : Bench) → length bytes ≡ 0 → play_rest total bytes b ≡ (Ok tt, b)
unfolding play_from
plays_out total [] b none = refl
plays_out total (x ∷ xs) b none = absurd (omega arith)

-- While a tape runs, what is left of it gives the same whole, and no memory is taken.
pub record StillPlays (total : ℕ) (rest all : List ℕ) (part began : PartState) (printed before : Vec ℕ Global) : Type 0 where
  pub goes_on : play_rest total rest (bench part (vec_items printed)) ≡ play_rest total all (bench began (vec_items before))
  pub shorter : length rest ≤ total
  pub room : vec_capacity printed ≡ vec_capacity before

-- what was printed before a record stands before what it prints
abbrev pub behind : List ℕ → Stepped → Stepped
behind before did = (did.0, bench did.1.part (before ++ did.1.printed))

record_behind : (r : Record) (part : PartState) (before rest : List ℕ) → done_before rest (do_record r (bench part before)) ≡ behind before (done_before rest (do_record r (bench part [])))
unfolding printing
record_behind (Load moment) part before rest = ap (λ l. done_before rest ((load_part part moment (tape_weekday moment) 0 1).0, bench (load_part part moment (tape_weekday moment) 0 1).1 l)) (sym (append-nil before))
record_behind (Pulses count) part before rest = ap (λ l. done_before rest ((pulse_part part count).0, bench (pulse_part part count).1 l)) (sym (append-nil before))
record_behind (Levels levels) part before rest = ap (λ l. done_before rest ((give_levels part levels).0, bench (give_levels part levels).1 l)) (sym (append-nil before))
record_behind (Print number) part before rest = refl

pub step_behind : (bytes : List ℕ) (part : PartState) (before : List ℕ) → one_record bytes (bench part before) ≡ behind before (one_record bytes (bench part []))
step_behind bytes part before = by_read (read_record bytes)
  where
    by_read : (x : RecordRead) → do_read x (bench part before) ≡ behind before (do_read x (bench part []))
    by_read (Ok read) = record_behind read.0 part before read.1
    by_read (Err refused) = ap (λ l. (Err (of_tape refused), bench part l)) (sym (append-nil before))

-- a record that is refused prints nothing
Quiet : Stepped → Type 0
Quiet did = (fault : RecordFault) → did.0 ≡ Err fault → did.1.printed ≡ []

record_quiet : (r : Record) (part : PartState) (rest : List ℕ) → Quiet (done_before rest (do_record r (bench part [])))
unfolding Quiet printing
record_quiet (Load moment) part rest fault refused = refl
record_quiet (Pulses count) part rest fault refused = refl
record_quiet (Levels levels) part rest fault refused = refl
record_quiet (Print number) part rest fault refused = cc

step_quiet : (bytes : List ℕ) (part : PartState) → Quiet (one_record bytes (bench part []))
unfolding Quiet
step_quiet bytes part = by_read (read_record bytes)
  where
    by_read : (x : RecordRead) → Quiet (do_read x (bench part []))
    by_read (Ok read) = record_quiet read.0 part read.1
    by_read (Err refused) = λ fault is. refl

-- From a record played by itself, with a line, to one played after others: what was printed before stands before.
module _ (bytes : List ℕ) (part after : PartState) (before line then : List ℕ) where
  step_taken : (did : Stepped) (count : ℕ) (rest : List ℕ) → ◌≡◌ {A = RecordPlayed} (Ok (count, rest), after, then) (count_step did line) → ◌≡◌ {A = Stepped} (Ok rest, bench after (before ++ take count then)) (behind before did)
  step_taken (Ok left, b) count rest is =
      let text = take-append_seam b.printed (drop (length b.printed) line) in
      let taken : take count then ≡ b.printed = ap (λ (w : RecordPlayed). take count w.2) is ∙ ap (λ n. take n (in_front b.printed line)) (counted (ap (λ (w : RecordPlayed). w.0) is)) ∙ text in
      ap {B = Stepped} (λ (l : List ℕ). (Ok l, bench after (before ++ take count then))) (left_is (ap (λ (w : RecordPlayed). w.0) is)) ∙ ap {B = Stepped} (λ (p : PartState). (Ok left, bench p (before ++ take count then))) (ap (λ (w : RecordPlayed). w.1) is) ∙ ap {B = Stepped} (λ (l : List ℕ). (Ok left, bench b.part (before ++ l))) taken
    where
      both : ◌≡◌ {A = Result (ℕ × List ℕ) RecordFault} (Ok (count, rest)) (Ok (length b.printed, left)) → ◌≡◌ {A = ℕ × List ℕ} (count, rest) (length b.printed, left)
      both e = cc

      counted : ◌≡◌ {A = Result (ℕ × List ℕ) RecordFault} (Ok (count, rest)) (Ok (length b.printed, left)) → count ≡ length b.printed
      counted e = ap (λ (p : ℕ × List ℕ). p.0) (both e)

      left_is : ◌≡◌ {A = Result (ℕ × List ℕ) RecordFault} (Ok (count, rest)) (Ok (length b.printed, left)) → rest ≡ left
      left_is e = ap (λ (p : ℕ × List ℕ). p.1) (both e)
  step_taken (Err fault, b) count rest is = absurd (never (ap (λ (w : RecordPlayed). w.0) is))
    where
      never : ◌≡◌ {A = Result (ℕ × List ℕ) RecordFault} (Ok (count, rest)) (Err fault) → ⊥
      never e = cc

  pub step_done : (count : ℕ) (rest : List ℕ) → ◌≡◌ {A = RecordPlayed} (Ok (count, rest), after, then) (play_one bytes part line) → ◌≡◌ {A = Stepped} (Ok rest, bench after (before ++ take count then)) (one_record bytes (bench part before))
  step_done count rest is = step_taken (one_record bytes (bench part [])) count rest is ∙ sym (step_behind bytes part before)

  step_stopped : (did : Stepped) (fault : RecordFault) → Quiet did → ◌≡◌ {A = RecordPlayed} (Err fault, after, then) (count_step did line) → ◌≡◌ {A = Stepped} (Err fault, bench after before) (behind before did)
  unfolding Quiet
  step_stopped (Ok left, b) fault quiet is = absurd (never (ap (λ (w : RecordPlayed). w.0) is))
    where
      never : ◌≡◌ {A = Result (ℕ × List ℕ) RecordFault} (Err fault) (Ok (length b.printed, left)) → ⊥
      never e = cc
  step_stopped (Err other, b) fault quiet is =
      ap {B = Stepped} (λ (f : RecordFault). (Err f, bench after before)) (same (ap (λ (w : RecordPlayed). w.0) is)) ∙ ap {B = Stepped} (λ (p : PartState). (Err other, bench p before)) (ap (λ (w : RecordPlayed). w.1) is) ∙ ap {B = Stepped} (λ (l : List ℕ). (Err other, bench b.part l)) (sym (append-nil before) ∙ ap (λ l. before ++ l) (sym (quiet other refl)))
    where
      same : ◌≡◌ {A = Result (ℕ × List ℕ) RecordFault} (Err fault) (Err other) → fault ≡ other
      same e = cc

  pub step_refused : (fault : RecordFault) → ◌≡◌ {A = RecordPlayed} (Err fault, after, then) (play_one bytes part line) → ◌≡◌ {A = Stepped} (Err fault, bench after before) (one_record bytes (bench part before))
  step_refused fault is = step_stopped (one_record bytes (bench part [])) fault (step_quiet bytes part) is ∙ sym (step_behind bytes part before)

-- a part's answer to a record as the tape's step hands it on
abbrev pub handed_on : List ℕ → Result ℕ Refusal → Result (ℕ × List ℕ) RecordFault
handed_on rest (Ok count) = Ok (count, rest)
handed_on rest (Err refusal) = Err (of_part refusal)

-- A record that was read is done by itself.
module _ (bytes rest : List ℕ) (r : Record) (part after : PartState) (line then : List ℕ) (answer : Result ℕ Refusal) where
  by_done : (did : Done) → ◌≡◌ {A = RecordPlayed} (handed_on rest (count_printed did line).0, (count_printed did line).1, (count_printed did line).2) (count_step (done_before rest did) line)
  by_done (Ok done, b) = refl
  by_done (Err why, b) = refl

  pub record_handed_on : ◌≡◌ {A = RecordRead} (Ok (r, rest)) (read_record bytes) → ◌≡◌ {A = Result ℕ Refusal × PartState × List ℕ} (answer, after, then) (perform_record r part line) → ◌≡◌ {A = RecordPlayed} (handed_on rest answer, after, then) (play_one bytes part line)
  record_handed_on read did =
      ap {B = RecordPlayed} (λ (w : Result ℕ Refusal × PartState × List ℕ). (handed_on rest w.0, w.1, w.2)) did ∙ by_done (do_record r (bench part [])) ∙ ap (λ (x : RecordRead). count_step (do_read x (bench part [])) line) read

-- a tape that is not at its end has bytes left
pub some_left : (rest : List ℕ) (empty : Bool) → empty ≡ eqb (length rest) 0 → empty ≡ false → 0 < length rest
some_left rest empty is none = omega (arith, eqb-false (length rest) 0 (sym is ∙ none))

pub none_left : (rest : List ℕ) (empty : Bool) → empty ≡ eqb (length rest) 0 → empty ≡ true → length rest ≡ 0
none_left rest empty is none = eqb-true (length rest) 0 (sym is ∙ none)
