-- The calls of a core as a list has them: what each answers and leaves, and what an onlooker makes of it.
use Rattle.std.specs.Prelude.{ℕ, Bool, true, false, cond, List, Some, None, Ok, Err, Option, Result, ◌==◌, nat_lt, slice_index}
use Rattle.refusals.specs.declared.Refusal.{Refusal}
use Rattle.refusals.specs.declared.Refusal.TheVariants.{ShortBuffer}
use Rattle.register_map.specs.declared.hour_mode.HourMode.{HourMode}
use Rattle.register_map.specs.declared.hour_mode.HourMode.TheVariants.{Twelve, TwentyFour}
use Rattle.register_map.specs.Chart.{Chart}
use Rattle.clock_core.specs.Core.{CoreState, Accepted as Acceptance, give_pulses, hold_core, release_core, read_cell, write_cell, registers, set_trim, set_core_mode, restart_second}
use Rattle.timekeeping.specs.Logs.{Sight, Took, Held, Released, Wrote, Gave, Nothing, Machine, machine_of}
use Rattle.timekeeping.specs.declared.call.CoreCall.{CoreCall}
use Rattle.timekeeping.specs.declared.call.CoreCall.TheVariants.{Pulses, Hold, Release, Read, Write, Look, SetTrim, SetHourMode, RestartSecond}
use Rattle.timekeeping.specs.declared.call.CoreAnswer.{CoreAnswer}
use Rattle.timekeeping.specs.declared.call.CoreAnswer.TheVariants.{Accepted, Byte, Registers}

-- what a call answers, or why it is refused
abbrev pub Answer : Type 0
Answer = Result CoreAnswer Refusal

abbrev pub acceptance : Acceptance → Answer
acceptance (Ok _) = Ok Accepted
acceptance (Err why) = Err why

abbrev pub byte_read : Result ℕ Refusal → Answer
byte_read (Ok byte) = Ok (Byte byte)
byte_read (Err why) = Err why

abbrev pub accepted_with : Acceptance × CoreState → Answer × CoreState
accepted_with r = (acceptance r.0, r.1)

-- a look at sixteen registers with a buffer of so many bytes
abbrev pub registers_seen : CoreState → ℕ → Answer
registers_seen s room = cond (nat_lt room 16) (Err ShortBuffer) (Ok (Registers (registers s)))

-- One call: its answer, and the core after it.
abbrev pub do_call : Chart → CoreState → CoreCall → Answer × CoreState
do_call c s (Pulses n) = accepted_with (give_pulses c s n)
do_call c s Hold = accepted_with (hold_core s)
do_call c s Release = accepted_with (release_core c s)
do_call c s (Read cell) = (byte_read (read_cell c s cell), s)
do_call c s (Write cell byte) = accepted_with (write_cell c s cell byte)
do_call c s (Look room) = (registers_seen s room, s)
do_call c s (SetTrim byte) = (Ok Accepted, set_trim s byte)
do_call c s (SetHourMode to) = (Ok Accepted, set_core_mode s to)
do_call c s RestartSecond = (Ok Accepted, restart_second c s)

-- What an onlooker makes of them.

abbrev pub same_mode : HourMode → HourMode → Bool
same_mode Twelve Twelve = true
same_mode Twelve TwentyFour = false
same_mode TwentyFour Twelve = false
same_mode TwentyFour TwentyFour = true

-- an accepted call; writing the hour mode that stands changes nothing
abbrev pub accepted_sight : HourMode → CoreCall → Sight
accepted_sight mode (Pulses n) = Took n
accepted_sight mode Hold = Held
accepted_sight mode Release = Released
accepted_sight mode (Read _) = Nothing
accepted_sight mode (Write _ _) = Wrote
accepted_sight mode (Look _) = Nothing
accepted_sight mode (SetTrim _) = Wrote
accepted_sight mode (SetHourMode to) = cond (same_mode mode to) Nothing Wrote
accepted_sight mode RestartSecond = Wrote

-- one byte, given out as one cell
abbrev pub one_cell : ℕ → ℕ → ℕ → Option ℕ
one_cell at byte cell = cond (at == cell) (Some byte) None

-- the calendar cells of a row of registers
abbrev pub cells_of : ℕ → List ℕ → ℕ → Option ℕ
cells_of count row cell = cond (nat_lt cell count) (Some (slice_index row cell)) None

abbrev pub read_sight : CoreCall → ℕ → Sight
read_sight (Read at) byte = Gave (one_cell at byte)
read_sight (Pulses _) byte = Nothing
read_sight Hold byte = Nothing
read_sight Release byte = Nothing
read_sight (Write _ _) byte = Nothing
read_sight (Look _) byte = Nothing
read_sight (SetTrim _) byte = Nothing
read_sight (SetHourMode _) byte = Nothing
read_sight RestartSecond byte = Nothing

abbrev pub core_sight : ℕ → HourMode → CoreCall → Answer → Sight
core_sight count mode call (Ok Accepted) = accepted_sight mode call
core_sight count mode call (Ok (Byte byte)) = read_sight call byte
core_sight count mode call (Ok (Registers row)) = Gave (cells_of count row)
core_sight count mode call (Err _) = Nothing

-- A bare core over a map.
abbrev pub core_machine : Chart → Machine
core_machine c = machine_of (do_call c) (λ s. s) (λ mode before h. core_sight c.count mode h.call h.answer)
