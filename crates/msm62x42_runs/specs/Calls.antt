-- The calls of a 62X42 as a list has them: what each answers and leaves, and what an onlooker makes of it.
use Rattle.std.specs.Prelude.{ℕ, ◌%◌, Bool, true, false, cond, List, [], ◌∷◌, Ok, Err, ◌==◌, nat_lt}
use Rattle.refusals.specs.declared.Refusal.TheVariants.{ShortBuffer}
use Rattle.register_map.specs.declared.hour_mode.HourMode.{HourMode}
use Rattle.clock_core.specs.Core.{CoreState}
use Rattle.msm62x42.specs.Part.{load_part, pulse_part, read_part, write_part, deselected, registers, hour_mode_of}
use Rattle.timekeeping.specs.declared.call.CoreAnswer.TheVariants.{Accepted, Byte, Registers}
use Rattle.timekeeping.specs.CoreCalls.{Answer, accepted_with, byte_read, same_mode, one_cell, cells_of}
use Rattle.timekeeping.specs.Logs.{Sight, Took, Held, Released, Wrote, Gave, Nothing, Heard, Machine, machine_of}
use Rattle.msm62x42_runs.specs.declared.call.PartCall.{PartCall}
use Rattle.msm62x42_runs.specs.declared.call.PartCall.TheVariants.{Load, Pulses, Read, Write, Deselect, Look}

abbrev pub registers_seen : CoreState → ℕ → Answer
registers_seen s room = cond (nat_lt room 16) (Err ShortBuffer) (Ok (Registers (registers s)))

-- One call: its answer, and the part after it.
abbrev pub do_call : CoreState → PartCall → Answer × CoreState
do_call s (Load moment weekday mode) = accepted_with (load_part s moment weekday mode)
do_call s (Pulses n) = accepted_with (pulse_part s n)
do_call s (Read address) = (byte_read (read_part s address), s)
do_call s (Write address number) = accepted_with (write_part s address number)
do_call s Deselect = (Ok Accepted, deselected s)
do_call s (Look room) = (registers_seen s room, s)

-- What an onlooker makes of them.

-- held or released, once an accepted call has followed: by HOLD as it is written, by deselect and by a load
abbrev pub hold_after : PartCall → Bool → Bool
hold_after (Load _ _ _) before = false
hold_after (Pulses _) before = before
hold_after (Read _) before = before
hold_after (Write address number) before = cond (nat_lt address 13) before (cond (address == 13) (number % 2 == 1) before)
hold_after Deselect before = false
hold_after (Look _) before = before

abbrev pub hold_heard : PartCall → Answer → Bool → Bool
hold_heard call (Ok Accepted) before = hold_after call before
hold_heard call (Ok (Byte _)) before = before
hold_heard call (Ok (Registers _)) before = before
hold_heard call (Err _) before = before

-- whether HOLD stands after a log
unfoldable pub hold_stands : List (Heard PartCall Answer) → Bool
hold_stands [] = false
hold_stands (h ∷ log) = hold_heard h.call h.answer (hold_stands log)

-- HOLD 1 while held, and 0 or deselect while released, change nothing
abbrev pub hold_sight : Bool → Bool → Sight
hold_sight true true = Nothing
hold_sight true false = Held
hold_sight false true = Released
hold_sight false false = Nothing

-- a calendar cell, HOLD, or the hour mode, which may stand already
abbrev pub write_sight : HourMode → Bool → ℕ → ℕ → Sight
write_sight mode hold address number =
    cond (nat_lt address 13) Wrote
    (cond (address == 13) (hold_sight (number % 2 == 1) hold)
    (cond (address == 15) (cond (same_mode mode (hour_mode_of number)) Nothing Wrote) Nothing))

abbrev pub accepted_sight : HourMode → Bool → PartCall → Sight
accepted_sight mode hold (Load _ _ _) = Wrote
accepted_sight mode hold (Pulses n) = Took n
accepted_sight mode hold (Read _) = Nothing
accepted_sight mode hold (Write address number) = write_sight mode hold address number
accepted_sight mode hold Deselect = hold_sight false hold
accepted_sight mode hold (Look _) = Nothing

abbrev pub read_sight : PartCall → ℕ → Sight
read_sight (Load _ _ _) byte = Nothing
read_sight (Pulses _) byte = Nothing
read_sight (Read address) byte = cond (nat_lt address 13) (Gave (one_cell address byte)) Nothing
read_sight (Write _ _) byte = Nothing
read_sight Deselect byte = Nothing
read_sight (Look _) byte = Nothing

abbrev pub part_sight : HourMode → Bool → PartCall → Answer → Sight
part_sight mode hold call (Ok Accepted) = accepted_sight mode hold call
part_sight mode hold call (Ok (Byte byte)) = read_sight call byte
part_sight mode hold call (Ok (Registers row)) = Gave (cells_of 13 row)
part_sight mode hold call (Err _) = Nothing

-- The part over its own map.
abbrev pub part_machine : Machine
part_machine = machine_of do_call (λ s. s) (λ mode before h. part_sight mode (hold_stands before) h.call h.answer)
