-- How one record is taken off the front of a tape: its kind in a byte, its number in groups of seven bits.
use Rattle.std.specs.Prelude.{ℕ, ◌+◌, ◌*◌, ◌%◌, cond, ◌&&◌, List, [], ◌∷◌, Ok, Err, Result, ◌==◌, nat_lt}
use Rattle.std.specs.Borrow.{Bor}
use Rattle.refusals.specs.declared.Refusal.{Refusal}
use Rattle.tape.specs.declared.record.Kind.{Kind}
use Rattle.tape.specs.declared.record.Kind.TheVariants.{LoadMoment, GivePulses, GiveLevels, PrintRegisters}
use Rattle.tape.specs.declared.record.Record.{Record}
use Rattle.tape.specs.declared.record.Record.TheVariants.{Load, Pulses, Levels, Print}
use Rattle.tape.specs.declared.record.TapeRefusal.{TapeRefusal}
use Rattle.tape.specs.declared.record.TapeRefusal.TheVariants.{UnknownKind, TapeEnds, BadNumber, Other}

-- the refusal of the table that the tape answers with
abbrev pub refusal_of : TapeRefusal → Refusal
refusal_of UnknownKind = Refusal.UnknownKind
refusal_of TapeEnds = Refusal.TapeEnds
refusal_of BadNumber = Refusal.BadNumber
refusal_of (Other refusal) = refusal

-- 4Dh loads a moment, 50h gives pulses, 57h gives pin levels, 4Ch prints; no other byte begins a record
abbrev pub kind_of : ℕ → Result Kind TapeRefusal
kind_of byte =
    cond (byte == 0x4D) (Ok LoadMoment)
    (cond (byte == 0x50) (Ok GivePulses)
    (cond (byte == 0x57) (Ok GiveLevels)
    (cond (byte == 0x4C) (Ok PrintRegisters) (Err UnknownKind))))

-- the record of a kind with a number
abbrev pub record_of : Kind → ℕ → Record
record_of LoadMoment number = Load number
record_of GivePulses number = Pulses number
record_of GiveLevels number = Levels number
record_of PrintRegisters number = Print number

-- What a number has read: its value and the rest of the tape, or a refusal.
abbrev pub NumberRead : Type 0
NumberRead = Result (ℕ × List ℕ) TapeRefusal

-- the lowest group below those that follow it
abbrev pub low_group : ℕ → NumberRead → NumberRead
low_group low (Ok read) = Ok (low + 128 * read.0, read.1)
low_group low (Err e) = Err e

-- A number after `before` of its groups of seven bits, the lowest before the higher; bit 7 says that another follows.
-- There are at most five, and a last group of 0 stands alone.
unfoldable pub groups_after : ℕ → List ℕ → NumberRead
groups_after before [] = Err TapeEnds
groups_after before (group ∷ rest) =
    cond (nat_lt group 128)
    (cond (group == 0 && nat_lt 0 before) (Err BadNumber) (Ok (group, rest)))
    (cond (before == 4) (Err BadNumber) (low_group (group % 128) (groups_after (before + 1) rest)))

-- a number from its first group on
abbrev pub read_number : List ℕ → NumberRead
read_number = groups_after 0

-- What a record has read: the record and the rest of the tape, or a refusal.
abbrev pub RecordRead : Type 0
RecordRead = Result (Record × List ℕ) TapeRefusal

-- a record is read once its number is
abbrev pub with_number : Kind → NumberRead → RecordRead
with_number kind (Ok read) = Ok (record_of kind read.0, read.1)
with_number kind (Err e) = Err e

-- the kind is looked at before the number
abbrev pub with_kind : Result Kind TapeRefusal → List ℕ → RecordRead
with_kind (Ok kind) rest = with_number kind (read_number rest)
with_kind (Err e) rest = Err e

-- one record from the front of the tape: kind byte, number, and the rest
abbrev pub read_record : List ℕ → RecordRead
read_record [] = Err TapeEnds
read_record (byte ∷ rest) = with_kind (kind_of byte) rest

-- what the code answers, with the bytes that it points to
abbrev pub number_view : Result (ℕ × Bor (List ℕ)) TapeRefusal → NumberRead
number_view (Ok read) = Ok (read.0, read.1.now)
number_view (Err e) = Err e

-- the same of a record
abbrev pub record_view : Result (Record × Bor (List ℕ)) TapeRefusal → RecordRead
record_view (Ok read) = Ok (read.0, read.1.now)
record_view (Err e) = Err e
