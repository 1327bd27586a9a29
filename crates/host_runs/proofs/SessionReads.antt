-- What sessions give their hosts of the calendar is of one code in a held stretch.
use Rattle.std.proofs.Common.{◌≡◌, ℕ, ◌<◌, true, false, List, [], ◌∷◌, ◌++◌, map, length, get_or, Some, sym, refl, ap, ◌∙◌, subst, arith}
use Rattle.std.proofs.lemmas.List.{map-append}
use Rattle.std.specs.List.{AllByRecursion}
use Rattle.register_map.specs.declared.hour_mode.HourMode.{HourMode}
use Rattle.register_map.specs.declared.shown.Shown.{Shown}
use Rattle.register_map.specs.Chart.{MapState, shown_by}
use Rattle.byte_map.specs.Cells.{byte_chart}
use Rattle.byte_map.specs.RowLaws.{byte_chart_lawful}
use Rattle.serial_transfer.specs.declared.phase.Phase.TheVariants.{Read as ReadData}
use Rattle.clock_core.specs.Core.{CoreState}
use Rattle.rx5c_registers.specs.File.{registers}
use Rattle.rx5c_registers.proofs.Rows.{lower_register}
use Rattle.rx5c348a.specs.Part.{PartState}
use Rattle.rx5c348a.specs.Pins.{move_of}
use Rattle.timekeeping.specs.Logs.{Gave, Stretch, sights_after, is_release, Log, log_of, state_after, Undisturbed, ShortStretches, is_write}
use Rattle.timekeeping.specs.Law.{NewlyMade}
use Rattle.timekeeping.proofs.Heard.{Truly, truly_with, all_earlier, short_earlier, open_stretch}
use Rattle.timekeeping.proofs.Theorem.{kept, keeps_time}
use Rattle.timekeeping.specs.CoreCalls.{one_cell}
use Rattle.rx5c348a_runs.specs.declared.call.WireCall.{WireCall}
use Rattle.rx5c348a_runs.specs.declared.call.WireCall.TheVariants.{Pins}
use Rattle.rx5c348a_runs.specs.Complete.{EighthRise, sight_after}
use Rattle.rx5c348a_runs.proofs.Complete.{everything_is_seen}
use Rattle.rx5c348a_runs.specs.Calls.{part_machine, notes}
use Rattle.rx5c348a_runs.specs.Start.{AtRest}
use Rattle.rx5c348a_runs.proofs.Tracking.{Tracks}
use Rattle.rx5c348a_runs.proofs.Runs.{tracked, begins, part_true}
use Rattle.host_sessions.specs.Driven.{all_driven}
use Rattle.host_runs.specs.declared.call.SessionCall.{SessionCall}
use Rattle.host_runs.specs.declared.call.HostCall.{HostCall}
use Rattle.host_runs.specs.Hosts.{Seat, Stepped, session_step, HostState, host_run}
use Rattle.host_runs.specs.Levels.{session_levels, wire_calls_of, on_wires, part_after, wires_log, LevelsSoFar}
use Rattle.host_runs.specs.Reads.{GivesByte, HeardGiven, Brought, CellsAreHeard, CellsAgree, GivenInList, OpenThen, OfItsStretch, PremisesHold}
use Rattle.host_runs.proofs.Wires.{end_state, ends_at, in_parts, levels_end, levels_after_each_call}
use Rattle.host_runs.proofs.GivenCells.{Stands, gives, HostStands, host_gives}

-- stretches of a log, and of a part of it
module _ (o : HourMode) where
  abbrev Unreleased : Log part_machine → Log part_machine → Type 0
  Unreleased from log = AllByRecursion (λ x. is_release x ≡ false) (sights_after part_machine o from log)

  so_far_unreleased : (from since so_far : Log part_machine) → Unreleased from (since ++ so_far) → Unreleased from so_far
  unfolding sights_after
  so_far_unreleased from [] so_far a = a
  so_far_unreleased from (h ∷ since) so_far a = so_far_unreleased from since so_far a.1

  -- one that was open once a part was heard, as far as it had come then
  abbrev so_far_of : (whole heard : Log part_machine) (s : Stretch part_machine o whole) → OpenThen o whole s heard → Stretch part_machine o heard
  so_far_of whole heard s then =
      record {
        later = [];
        stretch = then.so_far;
        hold = s.hold;
        before = s.before;
        cut = then.begun;
        holds = s.holds;
        unreleased = so_far_unreleased (s.hold ∷ s.before) then.since then.so_far (subst (Unreleased (s.hold ∷ s.before)) then.goes_on s.unreleased);
      }

  -- one that reaches to the end of a part, in the whole
  record Opened (whole heard : Log part_machine) : Type 0 where
    stretch : Stretch part_machine o whole
    is_open : OpenThen o whole stretch heard

  opened : (whole later heard : Log part_machine) → whole ≡ later ++ heard → (s : Stretch part_machine o heard) → s.later ≡ [] → Opened whole heard
  opened whole later heard e s newest =
      let reaches : heard ≡ s.stretch ++ (s.hold ∷ s.before) = s.cut ∙ ap (λ (l : Log part_machine). l ++ (s.stretch ++ (s.hold ∷ s.before))) newest in
      record {
        stretch = record {
          later = later;
          stretch = s.stretch;
          hold = s.hold;
          before = s.before;
          cut = e ∙ ap (λ (l : Log part_machine). later ++ l) reaches;
          holds = s.holds;
          unreleased = s.unreleased;
        };
        is_open = record { since = []; so_far = s.stretch; goes_on = refl; begun = reaches };
      }

-- a cell that stands on a map that shows this
cell_of : (row : MapState) (o : HourMode) (p : Shown) (cell : ℕ) → row.mode ≡ o → shown_by byte_chart row ≡ Some p → get_or row.cells cell 0 ≡ get_or (byte_chart.code o p) cell 0
cell_of row o p cell mode_stands shows =
    let coded = byte_chart_lawful.shown_is_coded row.mode row.cells p shows in
    ap (λ (cells : List ℕ). get_or cells cell 0) (sym coded.0) ∙ ap (λ (m : HourMode). get_or (byte_chart.code m p) cell 0) mode_stands

-- after calls that brought the part here
module _ (start : PartState) (before : List WireCall) (p : PartState) (brought : Brought p start before) where
  open brought use {at_rest, new, here}

  abbrev mode : HourMode
  mode = new.map.mode

  abbrev log : Log part_machine
  log = log_of part_machine start before

  pub heard_truly : Truly part_machine mode start log
  heard_truly = truly_with part_machine mode start before [] tt

  pub tracks : Tracks (notes log) p
  tracks = subst (Tracks (notes log)) (sym here) (tracked mode start (begins start at_rest new) log heard_truly)

  there : (front : List ℕ) → part_after start (before ++ map Pins front) ≡ all_driven front p
  there front =
      ends_at start (before ++ map Pins front)
      ∙ in_parts start before (map Pins front)
      ∙ levels_end (end_state start before) front
      ∙ ap (all_driven front) (sym (ends_at start before) ∙ sym here)

  -- the eighth rise, heard
  heard_given : (calls : List WireCall) (levels : List ℕ) (cell byte : ℕ) → cell < 7 → calls ≡ map Pins levels → Stands p levels cell byte → HeardGiven mode start before calls cell byte
  heard_given calls levels cell byte less driven stands =
      let r = stands.eighth in
      let row : get_or (registers p.file) cell 0 ≡ byte = lower_register p.file cell tracks.sound.seven less ∙ sym stands.is_cell in
      let at = there r.front ∙ r.there in
      let seen = everything_is_seen start (record { at_rest = at_rest; new = new }) (before ++ map Pins r.front) in
      let same : start.file.core.map.mode ≡ mode = ap (λ (c : CoreState). c.map.mode) new.made in
      let rise : EighthRise (part_after start (before ++ map Pins r.front)) 6 cell byte =
      record {
        burst = r.burst;
        out = r.out;
        reads = ap (λ (q : PartState). q.phase) at ∙ ap (λ (b : ℕ). ReadData cell r.burst 7 b r.out) row;
        selected = ap (λ (q : PartState). q.ce) at;
        rises = ap (λ (q : PartState). move_of q.ce q.sclk 6) at;
        in_calendar = less;
      } in
      record {
        front = map Pins r.front;
        levels = 6;
        rest = map Pins r.rest;
        cut = driven ∙ ap (map Pins) r.cut ∙ map-append Pins r.front (6 ∷ r.rest);
        given = subst (λ (o : HourMode). sight_after o start (before ++ map Pins r.front) (Pins 6) ≡ Gave (one_cell cell byte)) same (seen.reads 6 cell byte rise);
      }

  -- the code that a cell given is of
  of_its_stretch : (whole later : Log part_machine) → whole ≡ later ++ log → PremisesHold mode whole
      → (levels : List ℕ) (cell byte : ℕ) → Stands p levels cell byte
      → OfItsStretch mode start whole log cell byte
  of_its_stretch whole later e premises levels cell byte stands =
      let quiet' = all_earlier part_machine mode start (λ x. is_write x ≡ false) later log (subst (Undisturbed part_machine mode) e premises.undisturbed) in
      let short' = short_earlier part_machine mode start later log (subst (ShortStretches part_machine mode) e premises.short) in
      let true_to = part_true start (begins start at_rest new) mode in
      let k = kept part_machine byte_chart byte_chart_lawful start new true_to log heard_truly quiet' short' in
      let law = keeps_time part_machine byte_chart byte_chart_lawful start new true_to log heard_truly quiet' short' in
      let row : MapState = (state_after part_machine start log).file.core.map in
      let mode_stands : row.mode ≡ mode = ap (λ (w : MapState). w.mode) k.0.coded in
      let held : p.file.core.held ≡ true = tracks.held ∙ (sym tracks.ce ∙ stands.selected) in
      let now = open_stretch part_machine mode start log (sym k.1 ∙ (ap (λ (q : PartState). q.file.core.held) (sym here) ∙ held)) in
      let begun = opened mode whole later log e now.stretch now.newest in
      record {
        stretch = begun.stretch;
        is_open = begun.is_open;
        agrees = λ stretch then shown began.
            let calendar_stands = law.calendar_stands_while_held (so_far_of mode whole log stretch then) refl in
            stands.is_cell ∙ (ap (λ (q : PartState). get_or q.file.core.map.cells cell 0) here ∙ cell_of row mode shown cell mode_stands (calendar_stands ∙ began));
      }

-- one call of any session
module _ (seat : Seat) (p : PartState) (buffer : List ℕ) (call : SessionCall) (r : Stepped) (is : r ≡ session_step seat p buffer call) where
  abbrev levels : List ℕ
  levels = session_levels seat p (length buffer) call

  session_stands : (start : PartState) (before : List WireCall) → Brought p start before
      → (cell byte : ℕ) → cell < 7 → GivesByte call r.answer r.buffer cell byte
      → Stands p levels cell byte
  session_stands start before brought cell byte less given =
      gives (notes (log_of part_machine start before)) p (tracks start before p brought) cell less seat buffer call byte
      (subst (λ (q : Stepped). GivesByte call q.answer q.buffer cell byte) is given)

  pub cells_are_heard : CellsAreHeard p levels call r.answer r.buffer
  cells_are_heard start before brought cell byte less given =
      heard_given start before p brought (map Pins levels) levels cell byte less refl
      (session_stands start before brought cell byte less given)

  pub cells_agree : CellsAgree p call r.answer r.buffer
  cells_agree start before brought whole later e premises cell byte less given =
      of_its_stretch start before p brought whole later e premises levels cell byte
      (session_stands start before brought cell byte less given)

-- each call of a list
module _ (s : HostState) (rest : AtRest s.part) (calls : List HostCall) (new : NewlyMade byte_chart s.part.file.core) (cell byte : ℕ) (g : GivenInList s calls cell byte) where
  abbrev hosts : HostState
  hosts = (host_run s g.earlier).1

  abbrev before : List WireCall
  before = on_wires s g.earlier

  abbrev so_far : LevelsSoFar s calls g.earlier
  so_far = levels_after_each_call s calls g.earlier (g.call ∷ g.later) g.cut

  abbrev brought : Brought hosts.part s.part before
  brought = record { at_rest = rest; new = new; here = so_far.part }

  host_stands : HostStands hosts g.call cell byte
  host_stands = host_gives (notes (log_of part_machine s.part before)) hosts (tracks s.part before hosts.part brought) cell g.in_calendar g.call byte g.given

  -- it is heard given
  pub read_is_heard : HeardGiven new.map.mode s.part before (wire_calls_of hosts g.call) cell byte
  read_is_heard =
      heard_given s.part before hosts.part brought (wire_calls_of hosts g.call) host_stands.levels cell byte g.in_calendar host_stands.driven host_stands.stands

  -- and is of the stretch that is open then
  pub read_agrees : PremisesHold new.map.mode (wires_log s calls) → OfItsStretch new.map.mode s.part (wires_log s calls) (wires_log s g.earlier) cell byte
  read_agrees premises =
      of_its_stretch s.part before hosts.part brought (wires_log s calls) so_far.later so_far.heard premises host_stands.levels cell byte host_stands.stands
