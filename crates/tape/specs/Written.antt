-- The tape that writes a list of records, and what it does, said of the records and not of the bytes.
use Rattle.std.specs.Prelude.{◌≡◌, ℕ, zero, suc, ◌+◌, ◌/◌, ◌%◌, ◌^◌, ◌<◌, ◌≤◌, cond, List, [], ◌∷◌, ◌++◌, length, Ok, Err, Result, nat_lt}
use Rattle.std.specs.List.{flat_map, AllByRecursion}
use Rattle.refusals.specs.declared.Refusal.{Refusal}
use Rattle.rx5c348a.specs.Part.{PartState}
use Rattle.tape.specs.declared.fault.TapeFault.{TapeFault}
use Rattle.tape.specs.declared.record.Record.{Record}
use Rattle.tape.specs.declared.record.Record.TheVariants.{Load, Pulses, Levels, Print}
use Rattle.tape.specs.declared.record.TapeRefusal.{TapeRefusal}
use Rattle.tape.specs.Faults.{of_tape, of_part, at_place}
use Rattle.tape.specs.Playing.{Bench, Outcome, bench, do_record, play_rest}
use Rattle.tape.specs.Records.{read_record}

-- A number written by sevens of its bits, from the lowest: at most `more` groups that say another follows, and the last.
unfoldable pub groups_of : ℕ → ℕ → List ℕ
groups_of zero number = number ∷ []
groups_of (suc more) number = cond (nat_lt number 128) (number ∷ []) ((128 + number % 128) ∷ groups_of more (number / 128))

-- in at most five groups, which hold 35 bits
abbrev pub number_bytes : ℕ → List ℕ
number_bytes number = groups_of 4 number

-- the kind byte, then the number
abbrev pub record_bytes : Record → List ℕ
record_bytes (Load moment) = 0x4D ∷ number_bytes moment
record_bytes (Pulses count) = 0x50 ∷ number_bytes count
record_bytes (Levels levels) = 0x57 ∷ number_bytes levels
record_bytes (Print number) = 0x4C ∷ number_bytes number

-- the number that a record brings
abbrev pub number_in : Record → ℕ
number_in (Load moment) = moment
number_in (Pulses count) = count
number_in (Levels levels) = levels
number_in (Print number) = number

-- records one after the other
abbrev pub tape_of : List Record → List ℕ
tape_of records = flat_map record_bytes records

-- five groups hold each number
abbrev pub Writable : List Record → Type 0
Writable records = AllByRecursion (λ r. number_in r < 2 ^ 35) records

-- the part accepts a record and the next one is done, or it refuses and that record's place is a fault
abbrev pub next_record : ℕ → (Bench → Outcome) → Result (Unit {0}) Refusal → Bench → Outcome
next_record place next (Ok done) b = next b
next_record place next (Err refusal) b = (Err (at_place place (of_part refusal)), b)

-- Records done one after the other until one is refused, the first at a place of the tape.
unfoldable pub do_records : ℕ → List Record → Bench → Outcome
do_records place [] b = (Ok tt, b)
do_records place (r ∷ rs) b = next_record place (do_records (place + length (record_bytes r)) rs) (do_record r b).0 (do_record r b).1

-- what follows where nothing was refused
abbrev pub unless_refused : (Bench → Outcome) → Result (Unit {0}) TapeFault → Bench → Outcome
unless_refused next (Ok done) b = next b
unless_refused next (Err fault) b = (Err fault, b)

-- the same, on how it ended so far
abbrev pub and_then : Outcome → (Bench → Outcome) → Outcome
and_then outcome next = unless_refused next outcome.0 outcome.1

-- A tape begins with written records; the rest follows.
pub record WrittenAs (tape : List ℕ) (records : List Record) (rest : List ℕ) : Type 0 where
  pub whole : tape ≡ tape_of records ++ rest
  pub numbers : Writable records

-- A rest with which no record begins: it is empty, or its first record is refused by the tape.
abbrev pub Ends : List ℕ → Result (Unit {0}) TapeRefusal → Type 0
Ends rest (Ok done) = rest ≡ []
Ends rest (Err refused) = (0 < length rest) × (read_record rest ≡ Err refused)

-- such a rest ends the tape: by itself, or with a fault at its first byte
abbrev pub ended : ℕ → Result (Unit {0}) TapeRefusal → Bench → Outcome
ended place (Ok done) b = (Ok tt, b)
ended place (Err refused) b = (Err (at_place place (of_tape refused)), b)

-- A tape of at most 4,096 bytes does its records in order.
pub record InOrder (tape : List ℕ) (part : PartState) (outcome : Outcome) : Type 0 where
  -- the records that it begins with are done first, and it goes on with the bytes after them, at their place
  pub goes_on : (records : List Record) (rest : List ℕ) → WrittenAs tape records rest → length tape ≤ 4096 → outcome ≡ and_then (do_records 0 records (bench part [])) (play_rest (length tape) rest)
  -- where no record is left to read, that is all that it does
  pub ends : (records : List Record) (rest : List ℕ) (how : Result (Unit {0}) TapeRefusal) → WrittenAs tape records rest → Ends rest how → length tape ≤ 4096 → outcome ≡ and_then (do_records 0 records (bench part [])) (ended (length (tape_of records)) how)
  -- and every tape is some records and such a rest
  pub written : (records : List Record) × (rest : List ℕ) × (how : Result (Unit {0}) TapeRefusal) × WrittenAs tape records rest × Ends rest how
