-- The clock core: what each call answers and leaves, over any register map.
use Rattle.std.specs.Prelude.{ℕ, zero, suc, ◌+◌, ◌-◌, ◌%◌, Bool, true, false, cond, ◌||◌, List, ◌++◌, length, drop, replicate, Some, None, Ok, Err, Option, Result, nat_le, nat_lt, slice_index}
use Rattle.std.specs.Option.{option_map}
use Rattle.std.specs.Result.{is_err, result_unwrap_or}
use Rattle.refusals.specs.declared.Refusal.{Refusal}
use Rattle.refusals.specs.declared.Refusal.TheVariants.{NoSuchMoment, NoSuchSetting, TooManyPulses, ShortBuffer, NoSuchCell, ShowsNone, AlreadyHeld, NotHeld}
use Rattle.register_map.specs.declared.hour_mode.HourMode.{HourMode}
use Rattle.register_map.specs.declared.hour_mode.HourMode.TheVariants.{TwentyFour}
use Rattle.register_map.specs.declared.shown.Shown.{Shown}
use Rattle.register_map.specs.Chart.{Chart, MapState, map_state, shown_by, second_of, second_after, advanced, put_byte, set_mode}
use Rattle.register_map.specs.Modes.{mode_numbered}
use Rattle.clock_core.specs.Seconds.{second_pulses}

-- A core: its map, its trim, where it stands in the running second and how long that is,
-- whether it is held, and whether a boundary waits.
pub record CoreState : Type 0 where
  pub map : MapState
  pub trim : ℕ
  pub position : ℕ
  pub second : ℕ
  pub held : Bool
  pub waits : Bool

abbrev pub with_map : CoreState → MapState → CoreState
with_map s m = record { map = m; trim = s.trim; position = s.position; second = s.second; held = s.held; waits = s.waits }

abbrev pub at_position : CoreState → ℕ → CoreState
at_position s p = record { map = s.map; trim = s.trim; position = p; second = s.second; held = s.held; waits = s.waits }

abbrev pub waiting : CoreState → Bool → CoreState
waiting s w = record { map = s.map; trim = s.trim; position = s.position; second = s.second; held = s.held; waits = w }

-- The seconds value by which the length of a second is chosen, a boundary that waits being counted.
abbrev pub counted_value : Chart → Bool → Shown → ℕ
counted_value c waits p = cond waits (second_of (second_after c p)) (second_of p)

-- A second begins: its length is fixed by the trim of this instant.
abbrev pub begin_second : Chart → CoreState → CoreState
begin_second c s =
    record {
      map = s.map;
      trim = s.trim;
      position = 0;
      second = second_pulses s.trim (option_map (counted_value c s.waits) (shown_by c s.map));
      held = s.held;
      waits = s.waits;
    }

-- A boundary moves the map on, or waits where the core is held; a second one in a stretch is lost.
abbrev pub cross_boundary : Chart → CoreState → CoreState
cross_boundary c s = begin_second c (cond s.held (waiting s true) (with_map s (advanced c s.map)))

-- One pulse.
abbrev pub one_pulse : Chart → CoreState → CoreState
one_pulse c s = cond (nat_lt (s.position + 1) s.second) (at_position s (s.position + 1)) (cross_boundary c s)

-- So many pulses, one after the other.
unfoldable pub many_pulses : Chart → ℕ → CoreState → CoreState
many_pulses c zero s = s
many_pulses c (suc n) s = many_pulses c n (one_pulse c s)

-- An answer that is only that the call was accepted, or its refusal.
abbrev pub Accepted : Type 0
Accepted = Result (Unit {0}) Refusal

abbrev pub most_pulses : ℕ
most_pulses = 1048576

abbrev pub give_pulses : Chart → CoreState → ℕ → Accepted × CoreState
give_pulses c s n = cond (nat_lt most_pulses n) (Err TooManyPulses, s) (Ok tt, many_pulses c n s)

-- how many pulses there are to the next boundary
abbrev pub pulses_left : CoreState → ℕ
pulses_left s = s.second - s.position

-- Pulses up to the next boundary: how many are left, and the core then.
abbrev pub run_to_boundary : Chart → CoreState → ℕ → ℕ × CoreState
run_to_boundary c s n =
    cond (nat_lt (s.position + n) s.second) (0, at_position s (s.position + n))
    (s.position + n - s.second, cross_boundary c s)

-- Registers 0 to 15: the cells, then zeros.
abbrev pub registers : CoreState → List ℕ
registers s = s.map.cells ++ replicate (16 - length s.map.cells) 0

-- A buffer that begins with the sixteen registers; what lies behind them stays. One too short for them is refused.
abbrev pub copied_front : List ℕ → List ℕ → Accepted × List ℕ
copied_front sixteen buffer = cond (nat_lt (length buffer) 16) (Err ShortBuffer, buffer) (Ok tt, sixteen ++ drop 16 buffer)

abbrev pub look_at : CoreState → List ℕ → Accepted × List ℕ
look_at s buffer = copied_front (registers s) buffer

-- a core with this map and trim, released, at the beginning of a second
abbrev pub new_core : Chart → MapState → ℕ → CoreState
new_core c m trim = begin_second c (record { map = m; trim = trim; position = 0; second = 0; held = false; waits = false })

abbrev pub made_of : Chart → MapState → ℕ → Option Shown → Result CoreState (Refusal × MapState)
made_of c m trim None = Err (ShowsNone, m)
made_of c m trim (Some p) = Ok (new_core c m trim)

-- Make: a trim over 127 is refused, and a map that shows none; a refusal gives the map back.
abbrev pub make_core : Chart → MapState → ℕ → Result CoreState (Refusal × MapState)
make_core c m trim = cond (nat_lt 127 trim) (Err (NoSuchSetting, m)) (made_of c m trim (shown_by c m))

-- a core as power-on leaves it over a map: released, trim 0, its second 32,768 long
abbrev pub idle_core : MapState → CoreState
idle_core m = record { map = m; trim = 0; position = 0; second = 32768; held = false; waits = false }

-- the hour mode of a number; load refuses one that has none, before this is asked
abbrev pub mode_of : ℕ → HourMode
mode_of number = result_unwrap_or (mode_numbered number) TwentyFour

-- what load refuses: first the moment and the weekday, then the trim and the mode
abbrev pub load_refusal : Chart → ℕ → ℕ → ℕ → ℕ → Option Refusal
load_refusal c moment weekday trim mode =
    cond (nat_le c.cycle moment || nat_lt 6 weekday) (Some NoSuchMoment)
    (cond (nat_lt 127 trim || is_err (mode_numbered mode)) (Some NoSuchSetting) None)

-- the core that a load leaves: it shows the moment and weekday, released, at the beginning of a second
abbrev pub loaded : Chart → ℕ → ℕ → ℕ → ℕ → CoreState
loaded c moment weekday trim mode =
    new_core c (map_state (c.code (mode_of mode) (record { moment = moment; weekday = weekday })) (mode_of mode)) trim

abbrev pub unless_refused : CoreState → CoreState → Option Refusal → Accepted × CoreState
unless_refused before after None = (Ok tt, after)
unless_refused before after (Some why) = (Err why, before)

abbrev pub load_core : Chart → CoreState → ℕ → ℕ → ℕ → ℕ → Accepted × CoreState
load_core c s moment weekday trim mode = unless_refused s (loaded c moment weekday trim mode) (load_refusal c moment weekday trim mode)

-- Hold and release.
abbrev pub hold_core : CoreState → Accepted × CoreState
hold_core s =
    cond s.held (Err AlreadyHeld, s)
    (Ok tt, record { map = s.map; trim = s.trim; position = s.position; second = s.second; held = true; waits = s.waits })

-- Release applies the waiting boundary; position and length stay.
abbrev pub released : Chart → CoreState → CoreState
released c s =
    record {
      map = cond s.waits (advanced c s.map) s.map;
      trim = s.trim;
      position = s.position;
      second = s.second;
      held = false;
      waits = false;
    }

abbrev pub release_core : Chart → CoreState → Accepted × CoreState
release_core c s = cond s.held (Ok tt, released c s) (Err NotHeld, s)

abbrev pub read_cell : Chart → CoreState → ℕ → Result ℕ Refusal
read_cell c s cell = cond (nat_lt cell c.count) (Ok (slice_index s.map.cells cell)) (Err NoSuchCell)

abbrev pub write_cell : Chart → CoreState → ℕ → ℕ → Accepted × CoreState
write_cell c s cell byte = cond (nat_lt cell c.count) (Ok tt, with_map s (put_byte c s.map cell byte)) (Err NoSuchCell, s)

-- What a part does to its core beyond these calls: its trim, its hour mode, and a second begun anew.
abbrev pub set_trim : CoreState → ℕ → CoreState
set_trim s byte =
    record { map = s.map; trim = byte % 128; position = s.position; second = s.second; held = s.held; waits = s.waits }

abbrev pub set_core_mode : CoreState → HourMode → CoreState
set_core_mode s to = with_map s (set_mode s.map to)

-- a waiting boundary is dropped
abbrev pub restart_second : Chart → CoreState → CoreState
restart_second c s = begin_second c (waiting s false)
