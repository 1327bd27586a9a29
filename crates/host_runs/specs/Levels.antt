-- Each call of hosts as the calls that it makes on the part: a call of a session is the levels
-- that it drives.
use Rattle.std.specs.Prelude.{◌≡◌, ℕ, min, List, [], ◌∷◌, ◌++◌, map, length, Some, None, Option, slice_get}
use Rattle.rx5c348a.specs.Part.{PartState}
use Rattle.rx5c348a_runs.specs.declared.call.WireCall.{WireCall}
use Rattle.rx5c348a_runs.specs.declared.call.WireCall.TheVariants.{Pins}
use Rattle.rx5c348a_runs.specs.Calls.{part_machine}
use Rattle.timekeeping.specs.Logs.{Log, state_after, log_of}
use Rattle.host_sessions.specs.Driven.{levels_of_open, levels_of_close, levels_of_read, levels_of_write, levels_of_burst_read, levels_of_burst_write}
use Rattle.host_runs.specs.declared.call.SessionCall.{SessionCall}
use Rattle.host_runs.specs.declared.call.SessionCall.TheVariants.{Open, Close, Read, Write, BurstRead, BurstWrite}
use Rattle.host_runs.specs.declared.call.HostCall.{HostCall}
use Rattle.host_runs.specs.declared.call.HostCall.TheVariants.{Wire, Session}
use Rattle.host_runs.specs.Hosts.{Seat, IdleSeat, OpenSeat, SpentSeat, HostState, work_one, host_run}

abbrev pub idle_levels : PartState → SessionCall → List ℕ
idle_levels p Open = levels_of_open p
idle_levels p _ = []

abbrev pub open_levels : PartState → ℕ → SessionCall → List ℕ
open_levels p room Open = []
open_levels p room Close = levels_of_close p
open_levels p room (Read address) = levels_of_read address p
open_levels p room (Write address byte) = levels_of_write address byte p
open_levels p room (BurstRead address count) = levels_of_burst_read address (min count room) p
open_levels p room (BurstWrite address bytes) = levels_of_burst_write address bytes.now p

abbrev pub spent_levels : PartState → SessionCall → List ℕ
spent_levels p Close = levels_of_close p
spent_levels p _ = []

-- The levels that a call of a session drives, by the session's state; what does not build
-- drives nothing.
abbrev pub session_levels : Seat → PartState → ℕ → SessionCall → List ℕ
session_levels (IdleSeat _) p room call = idle_levels p call
session_levels (OpenSeat _) p room call = open_levels p room call
session_levels (SpentSeat _) p room call = spent_levels p call

-- the levels that the end of a session drives
abbrev pub ending_levels : Seat → PartState → List ℕ
ending_levels (IdleSeat _) p = []
ending_levels (OpenSeat _) p = levels_of_close p
ending_levels (SpentSeat _) p = levels_of_close p

-- the levels of a call of the session at a number: none where no session stands
abbrev pub seat_levels : HostState → SessionCall → Option Seat → List ℕ
seat_levels s call None = []
seat_levels s call (Some session) = session_levels session s.part (length s.buffer) call

abbrev pub wire_calls_of : HostState → HostCall → List WireCall
wire_calls_of s (Wire call) = call ∷ []
wire_calls_of s (Session number call) =
    map Pins (seat_levels s call (slice_get s.sessions number))

-- A list of hosts' calls as the calls that it makes on the part.
unfoldable pub on_wires : HostState → List HostCall → List WireCall
on_wires s [] = []
on_wires s (call ∷ calls) = wire_calls_of s call ++ on_wires (work_one s call).1 calls

-- the part after calls on it
abbrev pub part_after : PartState → List WireCall → PartState
part_after p calls = state_after part_machine p (log_of part_machine p calls)

-- the part after levels on it
abbrev pub part_after_levels : PartState → List ℕ → PartState
part_after_levels p levels = part_after p (map Pins levels)

-- what is heard of a list of hosts' calls on the wires
abbrev pub wires_log : HostState → List HostCall → Log part_machine
wires_log s calls = log_of part_machine s.part (on_wires s calls)

-- After the first calls of a list.
pub record LevelsSoFar (s : HostState) (calls earlier : List HostCall) : Type 0 where
  -- the part is as what these make on the wires leaves it
  pub part : (host_run s earlier).1.part ≡ part_after s.part (on_wires s earlier)
  -- the whole list begins on the wires with what these make there
  pub rest : List WireCall
  pub begins : on_wires s calls ≡ on_wires s earlier ++ rest
  -- so what was heard by then is an earlier part of its log
  pub later : Log part_machine
  pub heard : wires_log s calls ≡ later ++ wires_log s earlier

-- The same after each call of a list, and before the first.
abbrev pub LevelsAfterEachCall : HostState → List HostCall → Type 0
LevelsAfterEachCall s calls =
    (earlier later : List HostCall) → calls ≡ earlier ++ later → LevelsSoFar s calls earlier
