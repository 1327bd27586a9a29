-- Hosts with sessions on one part: what each call answers and leaves.
use Rattle.std.specs.Prelude.{ℕ, min, List, [], ◌∷◌, ◌++◌, map, length, take, drop, Some, None, Option, Ok, Err, Result, slice_get, slice_set}
use Rattle.refusals.specs.declared.Refusal.{Refusal}
use Rattle.clock_core.specs.Core.{Accepted}
use Rattle.timekeeping.specs.Worked.{number_worked, calls_worked, into_row}
use Rattle.rx5c348a.specs.Part.{PartState}
use Rattle.rx5c348a_runs.specs.Calls.{Answered as WireAnswered, work_one as wire_one}
use Rattle.host_wires.specs.declared.record.PinRecord.{PinRecord}
use Rattle.host_wires.specs.Record.{Wired, wired}
use Rattle.host_sessions.specs.Sessions.{opened, closed, single_read, single_write, burst_read, burst_write}
use Rattle.host_runs.specs.declared.call.SessionCall.{SessionCall}
use Rattle.host_runs.specs.declared.call.SessionCall.TheVariants.{Open, Close, Read, Write, BurstRead, BurstWrite}
use Rattle.host_runs.specs.declared.call.HostCall.{HostCall}
use Rattle.host_runs.specs.declared.call.HostCall.TheVariants.{Wire, Session}
use Rattle.host_runs.specs.declared.call.HostAnswer.{HostAnswer}
use Rattle.host_runs.specs.declared.call.HostAnswer.TheVariants.{Wire as WireSaid, Done, Byte, Moved, DoesNotBuild, NoSuchSession}
use Rattle.host_runs.specs.declared.session.HostSession.{HostSession}
use Rattle.host_runs.specs.declared.session.HostSession.TheVariants.{Idle, Active, Spent}

-- A session with its pin record: idle, open or spent.
pub data Seat : Type 0 where
  IdleSeat : PinRecord → Seat
  OpenSeat : PinRecord → Seat
  SpentSeat : PinRecord → Seat

abbrev pub seat : HostSession → Seat
seat (Idle s) = IdleSeat s.pins
seat (Active s) = OpenSeat s.pins
seat (Spent s) = SpentSeat s.pins

-- What a call of hosts answers: what an accepted one gives, or why it is refused.
abbrev pub Answered : Type 0
Answered = Result HostAnswer Refusal

-- What a call of a session answers, and the session, the part and the buffer after it.
pub record Stepped : Type 0 where
  pub answer : Answered
  pub session : Seat
  pub part : PartState
  pub buffer : List ℕ

abbrev pub stepped : Answered → Seat → PartState → List ℕ → Stepped
stepped answer session part buffer =
    record { answer = answer; session = session; part = part; buffer = buffer }

abbrev pub byte_answered : Result ℕ Refusal → Answered
byte_answered (Ok byte) = Ok (Byte byte)
byte_answered (Err why) = Err why

abbrev pub done_answered : Accepted → Answered
done_answered (Ok _) = Ok Done
done_answered (Err why) = Err why

abbrev pub wire_answered : WireAnswered → Answered
wire_answered (Ok answer) = Ok (WireSaid answer)
wire_answered (Err why) = Err why

-- A burst read into the front of a buffer, as far as it reaches: the bytes moved, the buffer,
-- and both ends of the wires.
abbrev pub into_front : ℕ × List ℕ × Wired → List ℕ → ℕ × List ℕ × Wired
into_front r rest = (r.0, r.1 ++ rest, r.2)

abbrev pub burst_front : ℕ → ℕ → List ℕ → Wired → ℕ × List ℕ × Wired
burst_front address count buffer w =
    into_front (burst_read address (take (min count (length buffer)) buffer) w)
    (drop (min count (length buffer)) buffer)

-- An idle session can only open.
abbrev pub idle_step : PinRecord → PartState → SessionCall → Answered × Seat × PartState
idle_step pins p Open =
    (Ok Done, OpenSeat (opened (wired pins p)).pins, (opened (wired pins p)).part)
idle_step pins p _ = (Ok DoesNotBuild, IdleSeat pins, p)

-- An open one can do all else. It stays open after a single transfer, and a burst spends it.
abbrev pub open_after : Answered → Wired → List ℕ → Stepped
open_after answer w buffer = stepped answer (OpenSeat w.pins) w.part buffer

abbrev pub spent_after : ℕ → Wired → List ℕ → Stepped
spent_after moved w buffer = stepped (Ok (Moved moved)) (SpentSeat w.pins) w.part buffer

abbrev pub burst_after : ℕ × List ℕ × Wired → Stepped
burst_after r = spent_after r.0 r.2 r.1

abbrev pub open_step : PinRecord → PartState → List ℕ → SessionCall → Stepped
open_step pins p buffer Open = stepped (Ok DoesNotBuild) (OpenSeat pins) p buffer
open_step pins p buffer Close =
    stepped (Ok Done) (IdleSeat (closed (wired pins p)).pins) (closed (wired pins p)).part buffer
open_step pins p buffer (Read address) =
    let read = single_read address (wired pins p) in open_after (byte_answered read.0) read.1 buffer
open_step pins p buffer (Write address byte) =
    let written = single_write address byte (wired pins p) in
    open_after (done_answered written.0) written.1 buffer
open_step pins p buffer (BurstRead address count) =
    burst_after (burst_front address count buffer (wired pins p))
open_step pins p buffer (BurstWrite address bytes) =
    let written = burst_write address bytes.now (wired pins p) in
    spent_after written.0 written.1 buffer

-- A spent one can only close.
abbrev pub spent_step : PinRecord → PartState → SessionCall → Answered × Seat × PartState
spent_step pins p Close =
    (Ok Done, IdleSeat (closed (wired pins p)).pins, (closed (wired pins p)).part)
spent_step pins p _ = (Ok DoesNotBuild, SpentSeat pins, p)

abbrev pub with_buffer : Answered × Seat × PartState → List ℕ → Stepped
with_buffer r buffer = stepped r.0 r.1 r.2 buffer

abbrev pub session_step : Seat → PartState → List ℕ → SessionCall → Stepped
session_step (IdleSeat pins) p buffer call = with_buffer (idle_step pins p call) buffer
session_step (OpenSeat pins) p buffer call = open_step pins p buffer call
session_step (SpentSeat pins) p buffer call = with_buffer (spent_step pins p call) buffer

-- a session that ends closes what is open
abbrev pub session_ended : Seat → PartState → Wired
session_ended (IdleSeat pins) p = wired pins p
session_ended (OpenSeat pins) p = closed (wired pins p)
session_ended (SpentSeat pins) p = closed (wired pins p)

-- The sessions by number, the part that they share, and the hosts' buffer.
pub record HostState : Type 0 where
  pub sessions : List Seat
  pub part : PartState
  pub buffer : List ℕ

abbrev pub host_state : List Seat → PartState → List ℕ → HostState
host_state sessions part buffer = record { sessions = sessions; part = part; buffer = buffer }

-- the sessions of the code, with the part and the buffer as they stand
abbrev pub standing : List HostSession → PartState → List ℕ → HostState
standing sessions part buffer = host_state (map seat sessions) part buffer

-- one of the sessions has stepped, and the others are as they were
abbrev pub session_after : HostState → ℕ → Stepped → Answered × HostState
session_after s number r =
    (r.answer, host_state (slice_set s.sessions number r.session) r.part r.buffer)

-- A call of the session that stands at a number; where none does, nothing is done.
abbrev pub seat_call : HostState → ℕ → SessionCall → Option Seat → Answered × HostState
seat_call s number call None = (Ok NoSuchSession, s)
seat_call s number call (Some session) =
    session_after s number (session_step session s.part s.buffer call)

-- the same, by the number alone
unfoldable pub session_call : HostState → ℕ → SessionCall → Answered × HostState
session_call s number call = seat_call s number call (slice_get s.sessions number)

abbrev pub wire_after : HostState → WireAnswered × PartState → Answered × HostState
wire_after s r = (wire_answered r.0, host_state s.sessions r.1 s.buffer)

-- One call of a list.
abbrev pub host_step : HostState → HostCall → Answered × HostState
host_step s (Wire call) = wire_after s (wire_one s.part call)
host_step s (Session number call) = session_call s number call

-- the same, as a list is worked call by call
unfoldable pub work_one : HostState → HostCall → Answered × HostState
work_one s call = host_step s call

-- a list of calls, worked one after the other: the answers, and what stands then
abbrev pub with_answer : Answered → List Answered × HostState → List Answered × HostState
with_answer answer r = (answer ∷ r.0, r.1)

unfoldable pub host_run : HostState → List HostCall → List Answered × HostState
host_run s [] = ([], s)
host_run s (call ∷ calls) = with_answer (work_one s call).0 (host_run (work_one s call).1 calls)

-- A list worked into a row of answers, as far as there is room: the number of the calls worked,
-- what stands then, and the row.
abbrev pub hosts_worked :
    HostState → List HostCall → List Answered → ℕ × HostState × List Answered
hosts_worked s calls row =
    into_row (number_worked calls row) (host_run s (calls_worked calls row)) row
