-- The example list, worked: its premises by a test on the levels alone, and what its reads gave.
use Rattle.std.proofs.Common.{◌≡◌, ℕ, zero, suc, ◌+◌, ◌%◌, ◌<◌, ◌≤◌, Bool, true, false, cond, eqb, List, [], ◌∷◌, ◌++◌, get_or, Some, Option, sym, refl, ap, ◌∙◌, subst, arith}
use Rattle.std.proofs.lemmas.Int.{ints}
use Rattle.std.proofs.lemmas.Bool.Decides.{nat_tests}
use Rattle.register_map.specs.declared.hour_mode.HourMode.{HourMode}
use Rattle.register_map.specs.declared.hour_mode.HourMode.TheVariants.{TwentyFour}
use Rattle.register_map.specs.declared.shown.Shown.{Shown}
use Rattle.register_map.specs.Chart.{MapState, map_state, second_of, second_after}
use Rattle.byte_map.specs.Cells.{byte_chart}
use Rattle.byte_map.specs.RowLaws.{byte_chart_lawful}
use Rattle.clock_core.specs.Seconds.{trimmed_length}
use Rattle.rx5c348a.specs.Part.{PartState, load_part}
use Rattle.timekeeping.specs.Logs.{Sight, Log, state_after, log_with, log_of, sights_of, pulses_taken, is_held, Undisturbed, ShortStretches}
use Rattle.timekeeping.specs.Law.{NewlyMade, Timekeeping, calendar}
use Rattle.timekeeping.specs.Seconds.{WholeSeconds, length_of_second, first_seconds, seconds_past}
use Rattle.timekeeping.proofs.Heard.{Truly, truly_with}
use Rattle.timekeeping.proofs.Keeping.{length_low}
use Rattle.timekeeping.proofs.ShortLogs.{unreleased_pulses, all_short, short_by_test}
use Rattle.timekeeping.proofs.Theorem.{kept}
use Rattle.rx5c348a_runs.specs.declared.call.WireCall.{WireCall}
use Rattle.rx5c348a_runs.specs.declared.call.WireCall.TheVariants.{Pulses, Pins, Look}
use Rattle.rx5c348a_runs.specs.Onlooker.{silent, spelt}
use Rattle.rx5c348a_runs.specs.Calls.{notes, part_machine}
use Rattle.rx5c348a_runs.specs.Start.{Loaded}
use Rattle.rx5c348a_runs.specs.Example.{bits_clocked, seconds_clocked, before_the_stretch, example_calls, seconds_given, seconds_cell, MeetsPremises, example_part, BeginsPlain, PremisesCanBeMet}
use Rattle.rx5c348a_runs.proofs.Tracking.{Tracks}
use Rattle.rx5c348a_runs.proofs.Runs.{begins, part_law, part_true}
use Rattle.rx5c348a_runs.proofs.Shapes.{shapes, all_accepted, shapes_with, follow, shapes_short, shapes_taken, shapes_held, none_written, shapes_unwritten}
use Rattle.rx5c348a_runs.proofs.SecondsGiven.{noted_with, all_still, none_given, given_with, seconds, gives_standing, gives_nothing, alike_with, log_joined}

-- A list whose calls are accepted, by its levels alone, that meets the premises, takes so many pulses and ends released.
record Fits (calls : List WireCall) (pulses : ℕ) : Type 0 where
  accepted : all_accepted silent calls ≡ true
  short : (mode : HourMode) → all_short (shapes_with mode silent [] calls) ≡ true
  unwritten : (mode : HourMode) → none_written (shapes_with mode silent [] calls) ≡ true
  free : (mode : HourMode) → is_held (shapes_with mode silent [] calls) ≡ false
  taken : (mode : HourMode) → pulses_taken (shapes_with mode silent [] calls) ≡ pulses

-- The example's parts: the reads, and the list up to the second stretch, behind it and before the look.
abbrev one_read : List WireCall
one_read = Pins 4 ∷ seconds_clocked []

abbrev two_reads : List WireCall
two_reads = Pins 4 ∷ seconds_clocked (Pulses 300 ∷ seconds_clocked [])

abbrev first_pulses : List WireCall
first_pulses = Pulses 32600 ∷ []

abbrev behind_the_stretch : List WireCall
behind_the_stretch = before_the_stretch ++ (two_reads ++ (Pins 0 ∷ []))

abbrev before_the_look : List WireCall
before_the_look = behind_the_stretch ++ (one_read ++ (Pins 0 ∷ []))

pulses_fit : Fits first_pulses 32600
unfolding all_accepted shapes_with all_short unreleased_pulses none_written is_held pulses_taken
pulses_fit = record { accepted = refl; short = λ mode. refl; unwritten = λ mode. refl; free = λ mode. refl; taken = λ mode. refl }

before_fits : Fits before_the_stretch 32700
unfolding spelt bits_clocked all_accepted shapes_with all_short unreleased_pulses none_written is_held pulses_taken
before_fits = record { accepted = refl; short = λ mode. refl; unwritten = λ mode. refl; free = λ mode. refl; taken = λ mode. refl }

behind_fits : Fits behind_the_stretch 33000
unfolding spelt bits_clocked all_accepted shapes_with all_short unreleased_pulses none_written is_held pulses_taken
behind_fits = record { accepted = refl; short = λ mode. refl; unwritten = λ mode. refl; free = λ mode. refl; taken = λ mode. refl }

look_fits : Fits before_the_look 33000
unfolding spelt bits_clocked all_accepted shapes_with all_short unreleased_pulses none_written is_held pulses_taken
look_fits = record { accepted = refl; short = λ mode. refl; unwritten = λ mode. refl; free = λ mode. refl; taken = λ mode. refl }

example_fits : Fits example_calls 33000
unfolding spelt bits_clocked all_accepted shapes_with all_short unreleased_pulses none_written is_held pulses_taken
example_fits = record { accepted = refl; short = λ mode. refl; unwritten = λ mode. refl; free = λ mode. refl; taken = λ mode. refl }

-- 32,600 pulses have no whole second
none_yet : (trim value n : ℕ) → trim < 128 → WholeSeconds trim value 32600 n → n ≡ 0
unfolding first_seconds
none_yet trim value zero small whole = refl
none_yet trim value (suc n) small whole =
    let fit : first_seconds trim value n + length_of_second trim value n ≤ 32600 = whole.fit in
    let low = length_low trim value n small in
    absurd (omega arith)

-- 33,000 pulses have one whole second, whatever the trim
trimmed_high : (trim : ℕ) → trim < 128 → trimmed_length trim ≤ 32892
trimmed_high trim h = grind (arith, ints, nat_tests)

length_high : (trim value i : ℕ) → trim < 128 → length_of_second trim value i ≤ 32892
length_high trim value i h = high (eqb ((value + i) % 20) 0)
  where
    high : (b : Bool) → cond b (trimmed_length trim) 32768 ≤ 32892
    high true = trimmed_high trim h
    high false = omega arith

one_second : (trim value n : ℕ) → trim < 128 → WholeSeconds trim value 33000 n → n ≡ 1
unfolding first_seconds
one_second trim value zero small whole =
    let more : 33000 < 0 + length_of_second trim value 0 = whole.no_more in
    let high = length_high trim value 0 small in
    absurd (omega arith)
one_second trim value (suc zero) small whole = refl
one_second trim value (suc (suc n)) small whole =
    let fit : first_seconds trim value n + length_of_second trim value n + length_of_second trim value (suc n) ≤ 33000 = whole.fit in
    let low = length_low trim value n small in
    let later = length_low trim value (suc n) small in
    absurd (omega arith)

-- before the stretch 32,700 pulses have none, where the first second is plain
no_second : (trim value n : ℕ) → trim < 128 → eqb (value % 20) 0 ≡ false → WholeSeconds trim value 32700 n → n ≡ 0
unfolding first_seconds
no_second trim value zero small plain whole = refl
no_second trim value (suc zero) small plain whole =
    let fit : 0 + length_of_second trim value 0 ≤ 32700 = whole.fit in
    let same : (value + 0) % 20 ≡ value % 20 = omega arith in
    let long : length_of_second trim value 0 ≡ 32768 =
    ap (λ (k : ℕ). cond (eqb k 0) (trimmed_length trim) 32768) same ∙ ap (λ (b : Bool). cond b (trimmed_length trim) 32768) plain in
    absurd (omega arith)
no_second trim value (suc (suc n)) small plain whole =
    let fit : first_seconds trim value n + length_of_second trim value n + length_of_second trim value (suc n) ≤ 32700 = whole.fit in
    let low = length_low trim value n small in
    let later = length_low trim value (suc n) small in
    absurd (omega arith)

module _ (start : PartState) (loaded : Loaded start) where
  abbrev new : NewlyMade byte_chart start.file.core
  new = loaded.new

  abbrev mode : HourMode
  mode = new.map.mode

  tracks : Tracks silent start
  tracks = begins start loaded.at_rest new

  abbrev given : List WireCall → List (Option ℕ)
  given calls = seconds mode (log_of part_machine start calls)

  module _ (calls : List WireCall) (pulses : ℕ) (fits : Fits calls pulses) where
    abbrev log : Log part_machine
    log = log_of part_machine start calls

    abbrev sights : List Sight
    sights = sights_of part_machine mode log

    the_shapes : shapes sights ≡ shapes_with mode silent [] calls
    unfolding shapes sights_of notes
    the_shapes = follow mode start tracks calls [] silent [] tt (record { so = []; is = refl }) refl fits.accepted

    undisturbed : Undisturbed part_machine mode log
    undisturbed = shapes_unwritten sights (ap none_written the_shapes ∙ fits.unwritten mode)

    short : ShortStretches part_machine mode log
    short = short_by_test part_machine mode log (sym (shapes_short sights) ∙ ap all_short the_shapes ∙ fits.short mode)

    at_the_end : Timekeeping part_machine byte_chart start new log
    at_the_end = part_law start loaded.at_rest calls new undisturbed short [] log refl

    -- the calendar at the end, by the whole seconds in the pulses taken
    shows_at_the_end : calendar part_machine byte_chart start log ≡ Some (seconds_past byte_chart at_the_end.n new.shown)
    shows_at_the_end = at_the_end.calendar_follows_whole_seconds (sym (shapes_held sights) ∙ ap is_held the_shapes ∙ fits.free mode)

    ends_at : (n : ℕ) → ((k : ℕ) → WholeSeconds new.trim (second_of new.shown) pulses k → k ≡ n) → calendar part_machine byte_chart start log ≡ Some (seconds_past byte_chart n new.shown)
    ends_at n only =
        let all : pulses_taken sights ≡ pulses = sym (shapes_taken sights) ∙ ap pulses_taken the_shapes ∙ fits.taken mode in
        shows_at_the_end
        ∙ ap (λ (k : ℕ). Some (seconds_past byte_chart k new.shown))
        (only at_the_end.n (subst (λ (p : ℕ). WholeSeconds new.trim (second_of new.shown) p at_the_end.n) all at_the_end.whole_seconds))

    -- the map at the end is coded
    stands_at : (p : Shown) → calendar part_machine byte_chart start log ≡ Some p → (state_after part_machine start log).file.core.map ≡ map_state (byte_chart.code mode p) mode
    stands_at p shown =
        let m : MapState = (state_after part_machine start log).file.core.map in
        let k = kept part_machine byte_chart byte_chart_lawful start new (part_true start tracks mode) log (truly_with part_machine mode start calls [] tt) undisturbed short in
        let stands : m.mode ≡ mode = ap (λ (w : MapState). w.mode) k.0.coded in
        let coded = byte_chart_lawful.shown_is_coded m.mode m.cells p shown in
        ap (λ (row : List ℕ). map_state row m.mode) (sym coded.0) ∙ ap (λ (o : HourMode). map_state (byte_chart.code o p) o) stands

    -- a read that follows while the map stands, and then what gives nothing
    given_on : (p : Shown) → calendar part_machine byte_chart start log ≡ Some p → (read rest : List WireCall) (before : List (Option ℕ)) → given calls ≡ before → all_accepted (noted_with silent calls) read ≡ true → all_still mode (noted_with silent calls) read ≡ true → all_accepted (noted_with (noted_with silent calls) read) rest ≡ true → none_given mode (noted_with (noted_with silent calls) read) rest ≡ true → given (calls ++ (read ++ rest)) ≡ given_with mode (noted_with silent calls) (get_or (byte_chart.code mode p) 0 0) before read
    unfolding notes
    given_on p shown read rest before same ok calm rest_ok quiet =
        let here = alike_with mode start tracks calls [] silent tt (record { so = []; is = refl }) fits.accepted in
        let heard : Truly part_machine mode start log = truly_with part_machine mode start calls [] tt in
        let on : Log part_machine = log_with part_machine start log read in
        let joined : log_of part_machine start (calls ++ (read ++ rest)) ≡ log_with part_machine start on rest =
        log_joined start calls (read ++ rest) [] ∙ log_joined start read rest log in
        ap (seconds mode) joined
        ∙ gives_nothing mode start tracks rest on (noted_with (noted_with silent calls) read) _
        (truly_with part_machine mode start read log heard)
        (alike_with mode start tracks read log (noted_with silent calls) heard here ok)
        (gives_standing mode start tracks read log (noted_with silent calls) (map_state (byte_chart.code mode p) mode) before heard here (stands_at p shown) refl
        (byte_chart_lawful.code_length mode p) same ok calm)
        rest_ok quiet

  begins_shown : calendar part_machine byte_chart start (log_of part_machine start first_pulses) ≡ Some new.shown
  unfolding seconds_past
  begins_shown =
      ends_at first_pulses 32600 pulses_fit 0 (λ k whole. none_yet new.trim (second_of new.shown) k new.trim_in_range whole)

  one_on : (k : ℕ) → WholeSeconds new.trim (second_of new.shown) 33000 k → k ≡ 1
  one_on k whole = one_second new.trim (second_of new.shown) k new.trim_in_range whole

  behind_shown : calendar part_machine byte_chart start (log_of part_machine start behind_the_stretch) ≡ Some (second_after byte_chart new.shown)
  unfolding seconds_past
  behind_shown = ends_at behind_the_stretch 33000 behind_fits 1 one_on

  look_shown : calendar part_machine byte_chart start (log_of part_machine start before_the_look) ≡ Some (second_after byte_chart new.shown)
  unfolding seconds_past
  look_shown = ends_at before_the_look 33000 look_fits 1 one_on

  -- what is shown as the stretch begins
  abbrev in_the_stretch : Shown
  in_the_stretch = seconds_past byte_chart (at_the_end before_the_stretch 32700 before_fits).n new.shown

  none_given_yet : given first_pulses ≡ []
  unfolding notes sights_of seconds_given all_accepted none_given
  none_given_yet = gives_nothing mode start tracks first_pulses [] silent [] tt (record { so = []; is = refl }) refl refl refl

  first_given : given before_the_stretch ≡ seconds_cell mode new.shown ∷ []
  unfolding spelt bits_clocked all_accepted all_still none_given given_with noted_with
  first_given = given_on first_pulses 32600 pulses_fit new.shown begins_shown one_read (Pins 0 ∷ Pulses 100 ∷ []) [] none_given_yet refl refl refl refl

  two_given : given behind_the_stretch ≡ seconds_cell mode in_the_stretch ∷ seconds_cell mode in_the_stretch ∷ seconds_cell mode new.shown ∷ []
  unfolding spelt bits_clocked all_accepted all_still none_given given_with noted_with
  two_given =
      given_on before_the_stretch 32700 before_fits in_the_stretch (shows_at_the_end before_the_stretch 32700 before_fits) two_reads (Pins 0 ∷ []) _ first_given refl refl refl refl

  abbrev after : Option ℕ
  after = seconds_cell mode (second_after byte_chart new.shown)

  last_given : given before_the_look ≡ after ∷ seconds_cell mode in_the_stretch ∷ seconds_cell mode in_the_stretch ∷ seconds_cell mode new.shown ∷ []
  unfolding spelt bits_clocked all_accepted all_still none_given given_with noted_with
  last_given =
      given_on behind_the_stretch 33000 behind_fits (second_after byte_chart new.shown) behind_shown one_read (Pins 0 ∷ []) _ two_given refl refl refl refl

  all_given : given example_calls ≡ after ∷ after ∷ seconds_cell mode in_the_stretch ∷ seconds_cell mode in_the_stretch ∷ seconds_cell mode new.shown ∷ []
  unfolding spelt bits_clocked all_accepted all_still none_given given_with noted_with
  all_given =
      given_on before_the_look 33000 look_fits (second_after byte_chart new.shown) look_shown (Look 16 ∷ []) [] _ last_given refl refl refl refl

  meets_premises : MeetsPremises start new
  unfolding seconds_past
  meets_premises =
      let quiet = undisturbed example_calls 33000 example_fits in
      let brief = short example_calls 33000 example_fits in
      record {
        undisturbed = quiet;
        short_stretches = brief;
        keeps_time = part_law start loaded.at_rest example_calls new quiet brief;
        in_the_stretch = in_the_stretch;
        begins_at = shows_at_the_end before_the_stretch 32700 before_fits;
        five_times_given = all_given;
        one_second_on = ends_at example_calls 33000 example_fits 1 one_on;
      }

  not_before : BeginsPlain loaded → calendar part_machine byte_chart start (log_of part_machine start before_the_stretch) ≡ Some new.shown
  unfolding seconds_past
  not_before plain =
      ends_at before_the_stretch 32700 before_fits 0 (λ k whole. no_second new.trim (second_of new.shown) k new.trim_in_range plain whole)

-- what the example's load shows
abbrev example_shown : Shown
example_shown = record { moment = 3155760059; weekday = 6 }

example_loaded : Loaded example_part
unfolding load_part
example_loaded =
    record {
      at_rest = record { unselected = refl; low = refl; quiet = refl };
      new = record {
        map = map_state (byte_chart.code TwentyFour example_shown) TwentyFour;
        trim = 0x07;
        shown = example_shown;
        shows = byte_chart_lawful.code_shows TwentyFour example_shown (record { in_cycle = omega arith; in_week = omega arith });
        trim_in_range = omega arith;
        made = refl;
      };
    }

pub premises_can_be_met : PremisesCanBeMet
unfolding example_loaded
premises_can_be_met = record { met = meets_premises; not_before = not_before; loaded = example_loaded; plain = refl }
