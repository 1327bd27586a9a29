-- What sessions give their hosts of the calendar: in one held stretch, cells of one code.
use Rattle.std.specs.Prelude.{◌≡◌, ℕ, ◌+◌, ◌%◌, ◌<◌, ◌⊎◌, List, ◌∷◌, ◌++◌, map, Ok, Some, slice_index}
use Rattle.register_map.specs.declared.hour_mode.HourMode.{HourMode}
use Rattle.register_map.specs.declared.shown.Shown.{Shown}
use Rattle.byte_map.specs.Cells.{byte_chart}
use Rattle.rx5c348a.specs.Part.{PartState}
use Rattle.timekeeping.specs.Logs.{Gave, Log, log_of, Stretch, Undisturbed, ShortStretches}
use Rattle.timekeeping.specs.Law.{NewlyMade, calendar}
use Rattle.timekeeping.specs.CoreCalls.{one_cell}
use Rattle.rx5c348a_runs.specs.declared.call.WireCall.{WireCall}
use Rattle.rx5c348a_runs.specs.declared.call.WireCall.TheVariants.{Pins}
use Rattle.rx5c348a_runs.specs.Calls.{part_machine}
use Rattle.rx5c348a_runs.specs.Complete.{sight_after}
use Rattle.rx5c348a_runs.specs.Start.{AtRest}
use Rattle.host_runs.specs.declared.call.SessionCall.{SessionCall}
use Rattle.host_runs.specs.declared.call.SessionCall.TheVariants.{Read, BurstRead}
use Rattle.host_runs.specs.declared.call.HostCall.{HostCall}
use Rattle.host_runs.specs.declared.call.HostCall.TheVariants.{Wire, Session}
use Rattle.host_runs.specs.declared.call.HostAnswer.TheVariants.{Byte, Moved}
use Rattle.host_runs.specs.Hosts.{Answered, HostState, work_one, host_run}
use Rattle.host_runs.specs.Levels.{wire_calls_of, on_wires, part_after, wires_log}

-- A single read answers a register's byte.
pub record AnswersByte (call : SessionCall) (answer : Answered) (register byte : ℕ) : Type 0 where
  pub reads : call ≡ Read register
  pub answers : answer ≡ Ok (Byte byte)

-- A burst read moves a register's byte into the buffer: the registers follow one another
-- from its address, 0 after Fh.
pub record MovesByte (call : SessionCall) (answer : Answered) (buffer : List ℕ)
    (register byte : ℕ) : Type 0 where
  pub address : ℕ
  pub count : ℕ
  pub moved : ℕ
  pub place : ℕ
  pub reads : call ≡ BurstRead address count
  pub answers : answer ≡ Ok (Moved moved)
  pub is_moved : place < moved
  pub of_register : register ≡ (address + place) % 16
  pub in_buffer : byte ≡ slice_index buffer place

-- Either way a call of a session gives its host a register's byte.
abbrev pub GivesByte : SessionCall → Answered → List ℕ → ℕ → ℕ → Type 0
GivesByte call answer buffer register byte =
    AnswersByte call answer register byte ⊎ MovesByte call answer buffer register byte

-- the same of a call of hosts, with its answer and the buffer after it
abbrev pub HostIsGiven : HostCall → Answered × HostState → ℕ → ℕ → Type 0
HostIsGiven (Wire _) r register byte = ⊥
HostIsGiven (Session _ call) r register byte = GivesByte call r.0 r.1.buffer register byte

-- Among calls on the wires, made after others, the law's onlooker hears a cell given out
-- with its byte, at some levels.
pub record HeardGiven (mode : HourMode) (start : PartState) (before calls : List WireCall)
    (cell byte : ℕ) : Type 0 where
  pub front : List WireCall
  pub levels : ℕ
  pub rest : List WireCall
  pub cut : calls ≡ front ++ (Pins levels ∷ rest)
  pub given : sight_after mode start (before ++ front) (Pins levels) ≡ Gave (one_cell cell byte)

-- A part that some calls on the wires brought here, from where the law begins.
pub record Brought (p start : PartState) (before : List WireCall) : Type 0 where
  pub at_rest : AtRest start
  pub new : NewlyMade byte_chart start.file.core
  pub here : p ≡ part_after start before

-- A call of a session on such a part: each calendar cell that it gives its host is heard so
-- among its levels.
abbrev pub CellsAreHeard : PartState → List ℕ → SessionCall → Answered → List ℕ → Type 0
CellsAreHeard p levels call answer buffer =
    (start : PartState) (before : List WireCall) (brought : Brought p start before)
    (cell byte : ℕ) → cell < 7 → GivesByte call answer buffer cell byte
    → HeardGiven brought.new.map.mode start before (map Pins levels) cell byte

-- One call of a list, made after its first calls, gives its host a calendar cell.
pub record GivenInList (s : HostState) (calls : List HostCall) (cell byte : ℕ) : Type 0 where
  pub earlier : List HostCall
  pub call : HostCall
  pub later : List HostCall
  pub cut : calls ≡ earlier ++ (call ∷ later)
  pub in_calendar : cell < 7
  pub given : HostIsGiven call (work_one (host_run s earlier).1 call) cell byte

-- The same of each call of a list of hosts.
abbrev pub SessionReadsAreHeard : HostState → List HostCall → Type 0
SessionReadsAreHeard s calls =
    (new : NewlyMade byte_chart s.part.file.core)
    (cell byte : ℕ) (g : GivenInList s calls cell byte)
    → HeardGiven new.map.mode s.part (on_wires s g.earlier)
    (wire_calls_of (host_run s g.earlier).1 g.call) cell byte

-- A held stretch of a log is open once a part of the log was heard: by then it has begun,
-- and it goes on.
pub record OpenThen (mode : HourMode) (whole : Log part_machine)
    (s : Stretch part_machine mode whole) (heard : Log part_machine) : Type 0 where
  pub since : Log part_machine
  pub so_far : Log part_machine
  pub goes_on : s.stretch ≡ since ++ so_far
  pub begun : heard ≡ so_far ++ (s.hold ∷ s.before)

-- A byte given once a part of a log was heard.
pub record OfItsStretch (mode : HourMode) (start : PartState) (whole heard : Log part_machine)
    (cell byte : ℕ) : Type 0 where
  -- a held stretch is open then
  pub stretch : Stretch part_machine mode whole
  pub is_open : OpenThen mode whole stretch heard
  -- in each that is, the byte is the cell of the code of what was shown when the stretch began
  pub agrees :
      (s : Stretch part_machine mode whole) → OpenThen mode whole s heard
      → (p : Shown) → calendar part_machine byte_chart start s.before ≡ Some p
      → byte ≡ slice_index (byte_chart.code mode p) cell

-- The law's premises, of a log.
pub record PremisesHold (mode : HourMode) (log : Log part_machine) : Type 0 where
  pub undisturbed : Undisturbed part_machine mode log
  pub short : ShortStretches part_machine mode log

-- A call of a session as above, whatever is heard later: under the law's premises each calendar
-- cell that it gives its host is of its held stretch.
abbrev pub CellsAgree : PartState → SessionCall → Answered → List ℕ → Type 0
CellsAgree p call answer buffer =
    (start : PartState) (before : List WireCall) (brought : Brought p start before)
    (whole later : Log part_machine) → whole ≡ later ++ log_of part_machine start before
    → PremisesHold brought.new.map.mode whole
    → (cell byte : ℕ) → cell < 7 → GivesByte call answer buffer cell byte
    → OfItsStretch brought.new.map.mode start whole (log_of part_machine start before) cell byte

-- The same of each call of a list of hosts.
abbrev pub SessionReadsAgree : HostState → List HostCall → Type 0
SessionReadsAgree s calls =
    (new : NewlyMade byte_chart s.part.file.core)
    → PremisesHold new.map.mode (wires_log s calls)
    → (cell byte : ℕ) (g : GivenInList s calls cell byte)
    → OfItsStretch new.map.mode s.part (wires_log s calls) (wires_log s g.earlier) cell byte
