-- Nothing escapes the onlooker: every calendar cell that a part gives out, every byte that it takes for its calendar or
-- trim, and every rise and fall of CE is among his sights, and he sees no others. What happens is told here by the part's
-- own state, not by his notes.
use Rattle.std.specs.Prelude.{◌≡◌, ℕ, ◌<◌, ◌≤◌, Bool, true, false, List, Ok, Some, Option, slice_index}
use Rattle.register_map.specs.declared.hour_mode.HourMode.{HourMode}
use Rattle.serial_transfer.specs.declared.phase.SerialOut.{SerialOut}
use Rattle.serial_transfer.specs.declared.phase.Phase.TheVariants.{Write, Read}
use Rattle.serial_transfer.specs.Levels.{taken}
use Rattle.rx5c_registers.specs.File.{masked, hour_mode_in}
use Rattle.rx5c348a.specs.declared.pins.PinMove.TheVariants.{SclkRises, SclkFalls}
use Rattle.rx5c348a.specs.Part.{PartState}
use Rattle.rx5c348a.specs.Pins.{ce_to, move_of, Tells}
use Rattle.timekeeping.specs.CoreCalls.{same_mode, one_cell}
use Rattle.timekeeping.specs.Logs.{Sight, Held, Released, Wrote, Gave, state_after, log_of}
use Rattle.rx5c348a_runs.specs.declared.call.WireCall.{WireCall}
use Rattle.rx5c348a_runs.specs.declared.call.WireCall.TheVariants.{Pins, Look}
use Rattle.rx5c348a_runs.specs.Calls.{do_call, notes, call_sight, part_machine}
use Rattle.rx5c348a_runs.specs.Start.{Loaded}

-- The eighth rise of a calendar cell's byte: seven of its bits are over, and SCLK rises, CE being
-- high.
pub record EighthRise (p : PartState) (levels cell byte : ℕ) : Type 0 where
  pub burst : Bool
  pub out : SerialOut
  pub reads : p.phase ≡ Read cell burst 7 byte out
  pub selected : p.ce ≡ true
  pub rises : move_of p.ce p.sclk levels ≡ Ok SclkRises
  pub in_calendar : cell < 7

-- The eighth fall of a written byte: seven of its bits are in, and SCLK falls with the last, CE
-- being high. The byte lands.
pub record EighthFall (p : PartState) (levels address byte : ℕ) : Type 0 where
  pub burst : Bool
  pub gathered : ℕ
  pub last : ℕ
  pub writes : p.phase ≡ Write address burst 7 gathered
  pub selected : p.ce ≡ true
  pub falls : move_of p.ce p.sclk levels ≡ Ok (SclkFalls last)
  pub whole : byte ≡ taken gathered last

-- A landed byte disturbs the timekeeping where it goes to register 0 to 7, or to Eh with another hour mode.
pub data Disturbs (mode : HourMode) (address byte : ℕ) : Type 0 where
  CalendarOrTrim : address < 8 → Disturbs mode address byte
  OtherHourMode : address ≡ 14 → same_mode mode (hour_mode_in (masked 14 byte)) ≡ false → Disturbs mode address byte

-- a byte that disturbs lands
pub record Disturbance (mode : HourMode) (p : PartState) (levels : ℕ) : Type 0 where
  pub address : ℕ
  pub byte : ℕ
  pub lands : EighthFall p levels address byte
  pub disturbs : Disturbs mode address byte

-- What gives calendar cells out: the eighth rise of one's byte, and a look with room enough.
pub data GivesOut (p : PartState) (call : WireCall) : Type 0 where
  ByRead : (levels cell byte : ℕ) → call ≡ Pins levels → EighthRise p levels cell byte → GivesOut p call
  ByLook : (room : ℕ) → call ≡ Look room → 16 ≤ room → GivesOut p call

-- CE goes from the level that the part has to the other one, and SCLK stays.
pub record CeGoes (to : Bool) (p : PartState) (call : WireCall) : Type 0 where
  pub levels : ℕ
  pub drives : call ≡ Pins levels
  pub goes : move_of p.ce p.sclk levels ≡ Ok (ce_to to)

-- every calendar cell is given out, as it stands
pub record WholeCalendar (p : PartState) (sight : Sight) : Type 0 where
  pub bytes : ℕ → Option ℕ
  pub given : sight ≡ Gave bytes
  pub each : (cell : ℕ) → cell < 7 → bytes cell ≡ Some (slice_index p.file.core.map.cells cell)

-- the part after a list of calls
abbrev pub part_after : PartState → List WireCall → PartState
part_after start calls = state_after part_machine start (log_of part_machine start calls)

-- what he who heard the list makes of one call more
abbrev pub sight_after : HourMode → PartState → List WireCall → WireCall → Sight
sight_after mode start calls call =
    call_sight mode (notes (log_of part_machine start calls)) call (do_call (part_after start calls) call).0

-- what the move of levels says of them
abbrev pub MoveIsTold : PartState → ℕ → Type 0
MoveIsTold p levels = Tells p.ce p.sclk levels (move_of p.ce p.sclk levels)

pub record AllIsSeen (mode : HourMode) (start : PartState) (calls : List WireCall) : Type 0 where
  -- eight rises give out a cell, and he has it with its byte
  pub reads : (levels cell byte : ℕ) → EighthRise (part_after start calls) levels cell byte → sight_after mode start calls (Pins levels) ≡ Gave (one_cell cell byte)
  -- a look with room enough gives out them all
  pub looks : (room : ℕ) → 16 ≤ room → WholeCalendar (part_after start calls) (sight_after mode start calls (Look room))
  -- he sees a write where a byte that disturbs lands, and at no other levels
  pub writes : (levels : ℕ) → Disturbance mode (part_after start calls) levels → sight_after mode start calls (Pins levels) ≡ Wrote
  pub no_other_writes : (levels : ℕ) → sight_after mode start calls (Pins levels) ≡ Wrote → Disturbance mode (part_after start calls) levels
  -- he sees cells given out by such a read or look, and by no other call
  pub no_other_reads : (call : WireCall) (bytes : ℕ → Option ℕ) → sight_after mode start calls call ≡ Gave bytes → GivesOut (part_after start calls) call
  -- he sees a hold where CE rises, and at no other call
  pub holds : (call : WireCall) → CeGoes true (part_after start calls) call → sight_after mode start calls call ≡ Held
  pub no_other_holds : (call : WireCall) → sight_after mode start calls call ≡ Held → CeGoes true (part_after start calls) call
  -- he sees a release where CE falls, and at no other call
  pub releases : (call : WireCall) → CeGoes false (part_after start calls) call → sight_after mode start calls call ≡ Released
  pub no_other_releases : (call : WireCall) → sight_after mode start calls call ≡ Released → CeGoes false (part_after start calls) call
  -- and the moves by which this is told are what the levels say
  pub moves : (levels : ℕ) → MoveIsTold (part_after start calls) levels

-- After every list of calls on a loaded part, with the hour mode that it was loaded with.
abbrev pub EverythingIsSeen : Type 0
EverythingIsSeen =
    (start : PartState) → Loaded start → (calls : List WireCall) → AllIsSeen start.file.core.map.mode start calls
