-- The law of timekeeping: what a core keeps along a log, and the three statements from it.
use Rattle.std.proofs.Common.{◌≡◌, ℕ, suc, ◌+◌, ◌<◌, ◌≤◌, Bool, true, false, cond, List, [], ◌∷◌, ◌++◌, length, get_or, Some, Option, sym, refl, ap, ◌∙◌, subst, arith}
use Rattle.std.specs.Option.{option_map}
use Rattle.std.specs.List.{AllByRecursion}
use Rattle.register_map.specs.declared.hour_mode.HourMode.{HourMode}
use Rattle.register_map.specs.declared.shown.Shown.{Shown}
use Rattle.register_map.specs.Chart.{Chart, Lawful, Showable, MapState, map_state, shown_by, second_of}
use Rattle.clock_core.specs.Core.{CoreState, new_core, counted_value}
use Rattle.clock_core.specs.Seconds.{second_pulses}
use Rattle.timekeeping.specs.Law.{NewlyMade, Timekeeping, calendar, GivenFrom, KeepsTime}
use Rattle.timekeeping.specs.Logs.{Sight, Took, Held, Released, Wrote, Gave, Nothing, Machine, Heard, Log, state_after, sights_of, sights_after, pulses_taken, held_by, is_held, is_release, is_write, Undisturbed, ShortStretches}
use Rattle.timekeeping.specs.Seconds.{seconds_past, first_seconds, length_of_second}
use Rattle.timekeeping.proofs.Drift.{drift_bounds}
use Rattle.timekeeping.proofs.Heard.{Truly, truly_with, truly_earlier, all_earlier, short_earlier, since_hold, open_stretch}
use Rattle.timekeeping.proofs.Keeping.{Keeps, Acts, since_by, keeps_on, shown_coded, length_low}
use Rattle.timekeeping.proofs.Moments.{length_past}
use Rattle.timekeeping.proofs.Stretches.{Stays, stays, held_first}

-- A machine is true to its sights: after every log truly heard, a call does to the core what the onlooker makes of it.
abbrev pub TrueToSights : (m : Machine) → Chart → HourMode → m.State → Type 0
TrueToSights m c mode start =
    (h : Heard m.Call m.Answer) (log : Log m) → Truly m mode start (h ∷ log) → Acts c mode (m.sight mode log h) (m.core (state_after m start log)) (m.core (m.step (state_after m start log) h.call).1)

module _ (m : Machine) (c : Chart) (law : Lawful c) (start : m.State) (new : NewlyMade c (m.core start)) (true_to : TrueToSights m c new.map.mode start) where
  -- what is shown at the start is coded there
  starts : (new.map ≡ map_state (c.code new.map.mode new.shown) new.map.mode) × Showable c new.shown
  starts =
      let coded = law.shown_is_coded new.map.mode new.map.cells new.shown new.shows in
      (ap (λ cells. map_state cells new.map.mode) (sym coded.0), coded.1)

  abbrev sights : Log m → List Sight
  sights log = sights_of m new.map.mode log

  -- the core after a log
  abbrev core_after : Log m → CoreState
  core_after log = m.core (state_after m start log)

  abbrev Kept : Log m → Type 0
  Kept log = Keeps c new.trim new.map.mode new.shown (pulses_taken (sights log)) (since_hold m new.map.mode start (sights log)) (core_after log) × ((core_after log).held ≡ is_held (sights log))

  kept_new : Keeps c new.trim new.map.mode new.shown 0 0 (new_core c new.map new.trim)
  unfolding seconds_past first_seconds
  kept_new =
      let fixed : (new_core c new.map new.trim).second ≡ length_of_second new.trim (second_of new.shown) 0 =
      ap (λ (o : Option Shown). second_pulses new.trim (option_map (counted_value c false) o)) new.shows ∙ length_past c law new.trim 0 new.shown in
      let low = length_low new.trim (second_of new.shown) 0 new.trim_in_range in
      record {
        n = 0;
        k = 0;
        trim_kept = refl;
        coded = starts.0;
        counted = refl;
        within = subst (λ (l : ℕ). 0 < l) (sym fixed) (omega arith);
        length_kept = fixed;
        applied = refl;
        clear = λ _. refl;
        early = λ f. let e : ◌≡◌ {A = ℕ} 0 1 = cc in absurd (omega arith);
      }

  kept_at_start : Kept []
  unfolding pulses_taken since_hold state_after sights_of is_held
  kept_at_start =
      let P : CoreState → Type 0 = λ s. Keeps c new.trim new.map.mode new.shown 0 0 s × (s.held ≡ false) in
      subst P (sym new.made) (kept_new, refl)

  -- what a core keeps along a log
  pub kept : (log : Log m) → Truly m new.map.mode start log → Undisturbed m new.map.mode log → ShortStretches m new.map.mode log → Kept log
  unfolding pulses_taken since_hold state_after sights_of is_held
  kept [] heard quiet short = kept_at_start
  kept (h ∷ log) heard quiet short =
      let before = kept log heard.1 quiet.1 (short_earlier m new.map.mode start (h ∷ []) log short) in
      let x : Sight = m.sight new.map.mode log h in
      let within : held_by x (core_after log).held ≡ true → since_by x (since_hold m new.map.mode start (sights log)) ≤ 32644 =
      λ q.
      let o = open_stretch m new.map.mode start (h ∷ log) (ap (held_by x) (sym before.1) ∙ q) in
      let few = short o.stretch in
      let same = o.pulses in
      omega arith in
      let next =
      keeps_on c law new.trim new.trim_in_range new.map.mode new.shown starts.1 x (core_after log) (core_after (h ∷ log))
      (pulses_taken (sights log)) (since_hold m new.map.mode start (sights log)) before.0 (true_to h log heard) quiet.0 within in
      (next.0, next.1 ∙ ap (held_by x) before.1)

  -- the hour mode stands
  mode_stands : (log : Log m) → Kept log → (core_after log).map.mode ≡ new.map.mode
  mode_stands log k = ap (λ (w : MapState). w.mode) k.0.coded

  -- along a held stretch the core stays held over the map that the stretch found
  held_map : (stretch : Log m) (hold : Heard m.Call m.Answer) (before : Log m) → Truly m new.map.mode start (stretch ++ (hold ∷ before)) → Undisturbed m new.map.mode (stretch ++ (hold ∷ before)) → ShortStretches m new.map.mode (stretch ++ (hold ∷ before)) → m.sight new.map.mode before hold ≡ Held → AllByRecursion (λ x. is_release x ≡ false) (sights_after m new.map.mode (hold ∷ before) stretch) → Stays (core_after before) (core_after (stretch ++ (hold ∷ before)))
  unfolding state_after sights_of sights_after
  held_map [] hold before heard quiet short by on =
      held_first c new.map.mode (m.sight new.map.mode before hold) (core_after before) (core_after (hold ∷ before)) (true_to hold before heard) by
  held_map (h ∷ stretch) hold before heard quiet short by on =
      let rest : Log m = stretch ++ (hold ∷ before) in
      let short' = short_earlier m new.map.mode start (h ∷ []) rest short in
      let earlier = held_map stretch hold before heard.1 quiet.1 short' by on.1 in
      let mode = mode_stands rest (kept rest heard.1 quiet.1 short') in
      let now =
      stays c new.map.mode (m.sight new.map.mode rest h) (core_after rest) (core_after (h ∷ rest)) (true_to h rest heard) earlier.0 mode on.0 quiet.0 in
      (now.0, now.1 ∙ earlier.1)

  -- what a sight gives out stands in the cells
  given : (x : Sight) (s t : CoreState) (row : List ℕ) → Acts c new.map.mode x s t → length s.map.cells ≡ c.count → s.map.cells ≡ row → GivenFrom row x
  given (Took n) s t row acts whole e = tt
  given Held s t row acts whole e = tt
  given Released s t row acts whole e = tt
  given Wrote s t row acts whole e = tt
  given (Gave bytes) s t row acts whole e = λ cell byte b. acts.1 whole cell byte b ∙ ap (λ (r : List ℕ). get_or r cell 0) e
  given Nothing s t row acts whole e = tt

  -- what is given out along a held stretch is of the code of what was shown when it began
  stretch_reads : (stretch : Log m) (hold : Heard m.Call m.Answer) (before : Log m) (p : Shown) → Truly m new.map.mode start (stretch ++ (hold ∷ before)) → Undisturbed m new.map.mode (stretch ++ (hold ∷ before)) → ShortStretches m new.map.mode (stretch ++ (hold ∷ before)) → m.sight new.map.mode before hold ≡ Held → AllByRecursion (λ x. is_release x ≡ false) (sights_after m new.map.mode (hold ∷ before) stretch) → calendar m c start before ≡ Some p → AllByRecursion (GivenFrom (c.code new.map.mode p)) (sights_after m new.map.mode (hold ∷ before) stretch)
  unfolding sights_of sights_after
  stretch_reads [] hold before p heard quiet short by on shown = tt
  stretch_reads (h ∷ stretch) hold before p heard quiet short by on shown =
      let rest : Log m = stretch ++ (hold ∷ before) in
      let short' = short_earlier m new.map.mode start (h ∷ []) rest short in
      let earlier = held_map stretch hold before heard.1 quiet.1 short' by on.1 in
      let mode = mode_stands rest (kept rest heard.1 quiet.1 short') in
      let same : shown_by c (core_after rest).map ≡ Some p = ap (shown_by c) earlier.1 ∙ shown in
      let coded = law.shown_is_coded (core_after rest).map.mode (core_after rest).map.cells p same in
      let cells : (core_after rest).map.cells ≡ c.code new.map.mode p = sym coded.0 ∙ ap (λ (o : HourMode). c.code o p) mode in
      let whole : length (core_after rest).map.cells ≡ c.count = ap length cells ∙ law.code_length new.map.mode p in (
        given (m.sight new.map.mode rest h) (core_after rest) (m.core (m.step (state_after m start rest) h.call).1) (c.code new.map.mode p) (true_to h rest heard) whole cells,
        stretch_reads stretch hold before p heard.1 quiet.1 short' by on.1 shown,
      )

  -- released, the seconds that are over are all on the map
  applied_all : (log : Log m) (k : Kept log) → is_held (sights log) ≡ false → k.0.n ≡ k.0.k
  applied_all log k free =
      let clear = k.0.clear (k.1 ∙ free) in
      k.0.applied ∙ ap (λ (b : Bool). cond b (suc k.0.k) k.0.k) clear

  -- the three statements after a log
  pub keeps_time : (log : Log m) → Truly m new.map.mode start log → Undisturbed m new.map.mode log → ShortStretches m new.map.mode log → Timekeeping m c start new log
  unfolding first_seconds
  keeps_time log heard quiet short =
      let k = kept log heard quiet short in
      let total : ℕ = pulses_taken (sights log) in
      let fit : first_seconds new.trim (second_of new.shown) k.0.n ≤ total = omega (arith, k.0.counted) in
      let no_more : total < first_seconds new.trim (second_of new.shown) k.0.n + length_of_second new.trim (second_of new.shown) k.0.n =
      omega (arith, k.0.counted, k.0.within, k.0.length_kept) in
      let bounds = drift_bounds new.trim (second_of new.shown) k.0.n total new.trim_in_range fit no_more in
      record {
        n = k.0.n;
        whole_seconds = record { fit = fit; no_more = no_more };
        calendar_follows_whole_seconds = λ free.
            ap (shown_by c) k.0.coded
            ∙ shown_coded c law new.trim new.trim_in_range new.map.mode new.shown starts.1 k.0.k
            ∙ ap (λ (i : ℕ). Some (seconds_past c i new.shown)) (sym (applied_all log k free));
        calendar_stands_while_held = λ s newest.
            let cut : log ≡ s.stretch ++ (s.hold ∷ s.before) = s.cut ∙ ap (λ (l : Log m). l ++ (s.stretch ++ (s.hold ∷ s.before))) newest in
            let stands =
            held_map s.stretch s.hold s.before (subst (Truly m new.map.mode start) cut heard) (subst (Undisturbed m new.map.mode) cut quiet)
            (subst (ShortStretches m new.map.mode) cut short) s.holds s.unreleased in
            ap (λ (l : Log m). shown_by c (core_after l).map) cut ∙ ap (shown_by c) stands.1;
        drift_not_below = bounds.0;
        drift_not_above = bounds.1;
        reads_in_a_stretch_agree = λ s p shown.
            let part : Log m = s.stretch ++ (s.hold ∷ s.before) in
            stretch_reads s.stretch s.hold s.before p
            (truly_earlier m new.map.mode start s.later part (subst (Truly m new.map.mode start) s.cut heard))
            (all_earlier m new.map.mode start (λ x. is_write x ≡ false) s.later part (subst (Undisturbed m new.map.mode) s.cut quiet))
            (short_earlier m new.map.mode start s.later part (subst (ShortStretches m new.map.mode) s.cut short))
            s.holds s.unreleased shown;
      }

-- the law for every list of calls on a machine that is true to its sights
pub the_law : (m : Machine) (c : Chart) → Lawful c → (start : m.State) → ((new : NewlyMade c (m.core start)) → TrueToSights m c new.map.mode start) → (calls : List m.Call) → KeepsTime m c start calls
the_law m c law start true_to calls new quiet short later log cut =
    let mode : HourMode = new.map.mode in
    let heard = truly_with m mode start calls [] tt in
    keeps_time m c law start new (true_to new) log (truly_earlier m mode start later log (subst (Truly m mode start) cut heard))
    (all_earlier m mode start (λ x. is_write x ≡ false) later log (subst (Undisturbed m mode) cut quiet))
    (short_earlier m mode start later log (subst (ShortStretches m mode) cut short))
