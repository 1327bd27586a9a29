-- What every core keeps from one pulse to the next, and from one call to the next.
use Rattle.std.proofs.Common.{◌≡◌, ℕ, zero, suc, ◌+◌, ◌%◌, ◌<◌, ◌≤◌, Bool, true, false, cond, eqb, ltb, length, get_or, Some, Option, sym, refl, ap, ◌∙◌, subst, ap₂, subst₂, arith, ltb-false, ltb-true}
use Rattle.std.specs.Option.{option_map}
use Rattle.std.proofs.lemmas.Int.{ints}
use Rattle.std.proofs.lemmas.Bool.Decides.{nat_tests}
use Rattle.register_map.specs.declared.hour_mode.HourMode.{HourMode}
use Rattle.register_map.specs.declared.shown.Shown.{Shown}
use Rattle.register_map.specs.Chart.{Chart, Showable, Lawful, MapState, map_state, shown_by, second_of, advanced, advanced_from}
use Rattle.clock_core.specs.Core.{CoreState, cross_boundary, one_pulse, many_pulses, counted_value, released as released_core}
use Rattle.clock_core.specs.Seconds.{second_pulses, trimmed_length}
use Rattle.clock_core.proofs.Effects.{pulse_held, pulses_held}
use Rattle.clock_core.proofs.Runs.{pulse_within, pulse_crosses}
use Rattle.timekeeping.specs.Logs.{Sight, Took, Held, Released, Wrote, Gave, Nothing, pulses_by, held_by, is_write}
use Rattle.timekeeping.specs.Seconds.{seconds_past, length_of_second, first_seconds}
use Rattle.timekeeping.proofs.Moments.{showable_past, length_past}

-- a core by its parts
abbrev pub core : MapState → ℕ → ℕ → ℕ → Bool → Bool → CoreState
core m t at long held waits = record { map = m; trim = t; position = at; second = long; held = held; waits = waits }

trimmed_low : (trim : ℕ) → trim < 128 → 32644 ≤ trimmed_length trim
trimmed_low trim h = grind (arith, ints, nat_tests)

-- no second is shorter than 32,644 pulses
pub length_low : (trim value i : ℕ) → trim < 128 → 32644 ≤ length_of_second trim value i
length_low trim value i h = low (eqb ((value + i) % 20) 0)
  where
    low : (b : Bool) → 32644 ≤ cond b (trimmed_length trim) 32768
    low true = trimmed_low trim h
    low false = omega arith

-- What a core keeps after so many pulses in all, and so many since it was held: n seconds are over and k of them are on its map.
pub record Keeps (c : Chart) (trim : ℕ) (mode : HourMode) (p : Shown) (total since : ℕ) (s : CoreState) : Type 0 where
  pub n : ℕ
  pub k : ℕ
  pub trim_kept : s.trim ≡ trim
  pub coded : s.map ≡ map_state (c.code mode (seconds_past c k p)) mode
  pub counted : total ≡ first_seconds trim (second_of p) n + s.position
  pub within : s.position < s.second
  pub length_kept : s.second ≡ length_of_second trim (second_of p) n
  pub applied : n ≡ cond s.waits (suc k) k
  pub clear : s.held ≡ false → s.waits ≡ false
  pub early : s.waits ≡ true → s.position < since

-- a core, held
abbrev pub held_core : CoreState → CoreState
held_core s = core s.map s.trim s.position s.second true s.waits

-- What a sight says of the core before and after it.
abbrev pub Acts : Chart → HourMode → Sight → CoreState → CoreState → Type 0
Acts c mode (Took n) s t = t ≡ many_pulses c n s
Acts c mode Held s t = (s.held ≡ false) × (t ≡ held_core s)
Acts c mode Released s t = (s.held ≡ true) × (t ≡ released_core c s)
Acts c mode Wrote s t = Unit {0}
Acts c mode (Gave bytes) s t = (t ≡ s) × (length s.map.cells ≡ c.count → (cell byte : ℕ) → bytes cell ≡ Some byte → byte ≡ get_or s.map.cells cell 0)
Acts c mode Nothing s t = s.map.mode ≡ mode → t ≡ s

-- the pulses since a hold, one sight more
abbrev pub since_by : Sight → ℕ → ℕ
since_by (Took n) since = n + since
since_by Held since = 0
since_by Released since = 0 + since
since_by Wrote since = 0 + since
since_by (Gave _) since = 0 + since
since_by Nothing since = 0 + since

module _ (c : Chart) (law : Lawful c) (trim : ℕ) (in_range : trim < 128) (mode : HourMode) (p : Shown) (ok : Showable c p) where
  -- the map k seconds past the start
  abbrev coded_at : ℕ → MapState
  coded_at k = map_state (c.code mode (seconds_past c k p)) mode

  pub shown_coded : (k : ℕ) → shown_by c (coded_at k) ≡ Some (seconds_past c k p)
  shown_coded k = law.code_shows mode (seconds_past c k p) (showable_past c law k p ok)

  pub advance_coded : (k : ℕ) → advanced c (coded_at k) ≡ coded_at (suc k)
  unfolding seconds_past
  advance_coded k = ap (advanced_from c (coded_at k)) (shown_coded k)

  -- the length fixed at a boundary
  fixed : (k : ℕ) → second_pulses trim (option_map (counted_value c false) (shown_by c (coded_at k))) ≡ length_of_second trim (second_of p) k
  fixed k = ap (λ (o : Option Shown). second_pulses trim (option_map (counted_value c false) o)) (shown_coded k) ∙ length_past c law trim k p

  fixed_waiting : (k : ℕ) → second_pulses trim (option_map (counted_value c true) (shown_by c (coded_at k))) ≡ length_of_second trim (second_of p) (suc k)
  unfolding seconds_past
  fixed_waiting k = ap (λ (o : Option Shown). second_pulses trim (option_map (counted_value c true) o)) (shown_coded k) ∙ length_past c law trim (suc k) p

  -- a boundary is crossed
  crossed : (at long since total : ℕ) (held waits : Bool) (m : MapState) (t : ℕ) → Keeps c trim mode p total since (core m t at long held waits) → suc at ≡ long → (held ≡ true → since < 32644) → Keeps c trim mode p (suc total) (suc since) (cross_boundary c (core m t at long held waits))
  unfolding first_seconds
  crossed at long since total false true m t kept over short =
      let never : true ≡ false = kept.clear refl in
      let e : ◌≡◌ {A = ℕ} 0 1 = cc in
      absurd (omega arith)
  crossed at long since total false false m t kept over short =
      let moved : advanced c m ≡ coded_at (suc kept.k) = ap (advanced c) kept.coded ∙ advance_coded kept.k in
      let long' : second_pulses t (option_map (counted_value c false) (shown_by c (advanced c m))) ≡ length_of_second trim (second_of p) (suc kept.n) =
      ap₂ (λ (u : ℕ) (w : MapState). second_pulses u (option_map (counted_value c false) (shown_by c w))) kept.trim_kept moved
      ∙ fixed (suc kept.k)
      ∙ ap (λ (j : ℕ). length_of_second trim (second_of p) (suc j)) (sym kept.applied) in
      let low = length_low trim (second_of p) (suc kept.n) in_range in
      record {
        n = suc kept.n;
        k = suc kept.k;
        trim_kept = kept.trim_kept;
        coded = moved;
        counted = omega (arith, kept.counted, kept.length_kept);
        within = subst (λ (l : ℕ). 0 < l) (sym long') (omega arith);
        length_kept = long';
        applied = ap suc kept.applied;
        clear = λ _. refl;
        early = λ f. let e : ◌≡◌ {A = ℕ} 0 1 = cc in absurd (omega arith);
      }
  crossed at long since total true false m t kept over short =
      let long' : second_pulses t (option_map (counted_value c true) (shown_by c m)) ≡ length_of_second trim (second_of p) (suc kept.n) =
      ap₂ (λ (u : ℕ) (w : MapState). second_pulses u (option_map (counted_value c true) (shown_by c w))) kept.trim_kept kept.coded
      ∙ fixed_waiting kept.k
      ∙ ap (λ (j : ℕ). length_of_second trim (second_of p) (suc j)) (sym kept.applied) in
      let low = length_low trim (second_of p) (suc kept.n) in_range in
      record {
        n = suc kept.n;
        k = kept.k;
        trim_kept = kept.trim_kept;
        coded = kept.coded;
        counted = omega (arith, kept.counted, kept.length_kept);
        within = subst (λ (l : ℕ). 0 < l) (sym long') (omega arith);
        length_kept = long';
        applied = ap suc kept.applied;
        clear = λ f. let e : ◌≡◌ {A = ℕ} 0 1 = cc in absurd (omega arith);
        early = λ _. omega arith;
      }
  crossed at long since total true true m t kept over short =
      absurd (omega (arith, kept.early refl, short refl, length_low trim (second_of p) kept.n in_range))

  -- a pulse within the second
  stepped : (at long since total : ℕ) (held waits : Bool) (m : MapState) (t : ℕ) → Keeps c trim mode p total since (core m t at long held waits) → at + 1 < long → Keeps c trim mode p (suc total) (suc since) (core m t (at + 1) long held waits)
  stepped at long since total held waits m t kept h =
      record {
        n = kept.n;
        k = kept.k;
        trim_kept = kept.trim_kept;
        coded = kept.coded;
        counted = omega (arith, kept.counted);
        within = h;
        length_kept = kept.length_kept;
        applied = kept.applied;
        clear = kept.clear;
        early = λ w. omega (arith, kept.early w);
      }

  -- one pulse
  pub keeps_pulse : (since total : ℕ) (s : CoreState) → Keeps c trim mode p total since s → (s.held ≡ true → since < 32644) → Keeps c trim mode p (suc total) (suc since) (one_pulse c s)
  keeps_pulse since total s kept short = by (ltb (s.position + 1) s.second) refl
    where
      by : (b : Bool) → ltb (s.position + 1) s.second ≡ b → Keeps c trim mode p (suc total) (suc since) (one_pulse c s)
      by true e =
          subst (Keeps c trim mode p (suc total) (suc since)) (sym (pulse_within c s (ltb-true _ _ e)))
          (stepped s.position s.second since total s.held s.waits s.map s.trim kept (ltb-true _ _ e))
      by false e =
          subst (Keeps c trim mode p (suc total) (suc since)) (sym (pulse_crosses c s (ltb-false _ _ e)))
          (let reached = ltb-false _ _ e in
          crossed s.position s.second since total s.held s.waits s.map s.trim kept (omega (arith, kept.within)) short)

  -- so many pulses
  pub keeps_pulses : (m since total : ℕ) (s : CoreState) → Keeps c trim mode p total since s → (s.held ≡ true → since + m ≤ 32644) → Keeps c trim mode p (m + total) (m + since) (many_pulses c m s)
  unfolding many_pulses
  keeps_pulses zero since total s kept short =
      let a : total ≡ 0 + total = omega arith in
      let b : since ≡ 0 + since = omega arith in
      subst₂ (λ (x y : ℕ). Keeps c trim mode p x y s) a b kept
  keeps_pulses (suc m) since total s kept short =
      let a : m + suc total ≡ suc m + total = omega arith in
      let b : m + suc since ≡ suc m + since = omega arith in
      let one = keeps_pulse since total s kept (λ h. omega (arith, short h)) in
      let rest = keeps_pulses m (suc since) (suc total) (one_pulse c s) one (λ h. omega (arith, short (sym (pulse_held c s) ∙ h))) in
      subst₂ (λ (x y : ℕ). Keeps c trim mode p x y (many_pulses c m (one_pulse c s))) a b rest

  -- release applies the waiting boundary
  keeps_release : (at long since total : ℕ) (held waits : Bool) (m : MapState) (t : ℕ) → Keeps c trim mode p total since (core m t at long held waits) → Keeps c trim mode p total since (released_core c (core m t at long held waits))
  keeps_release at long since total held false m t kept =
      record {
        n = kept.n;
        k = kept.k;
        trim_kept = kept.trim_kept;
        coded = kept.coded;
        counted = kept.counted;
        within = kept.within;
        length_kept = kept.length_kept;
        applied = kept.applied;
        clear = λ _. refl;
        early = kept.early;
      }
  keeps_release at long since total held true m t kept =
      record {
        n = kept.n;
        k = suc kept.k;
        trim_kept = kept.trim_kept;
        coded = ap (advanced c) kept.coded ∙ advance_coded kept.k;
        counted = kept.counted;
        within = kept.within;
        length_kept = kept.length_kept;
        applied = kept.applied;
        clear = λ _. refl;
        early = λ f. let e : ◌≡◌ {A = ℕ} 0 1 = cc in absurd (omega arith);
      }

  same_counts : (total since : ℕ) (s : CoreState) → Keeps c trim mode p total since s → Keeps c trim mode p (0 + total) (0 + since) s
  same_counts total since s kept =
      let a : total ≡ 0 + total = omega arith in
      let b : since ≡ 0 + since = omega arith in
      subst₂ (λ (x y : ℕ). Keeps c trim mode p x y s) a b kept

  keeps_hold : (total since : ℕ) (s : CoreState) → Keeps c trim mode p total since s → s.held ≡ false → Keeps c trim mode p (0 + total) 0 (held_core s)
  keeps_hold total since s kept free =
      record {
        n = kept.n;
        k = kept.k;
        trim_kept = kept.trim_kept;
        coded = kept.coded;
        counted = omega (arith, kept.counted);
        within = kept.within;
        length_kept = kept.length_kept;
        applied = kept.applied;
        clear = λ f. let e : ◌≡◌ {A = ℕ} 0 1 = cc in absurd (omega arith);
        early = λ f. let g : s.waits ≡ false = kept.clear free in let e : ◌≡◌ {A = ℕ} 0 1 = cc in absurd (omega arith);
      }

  -- one sight more
  pub keeps_on : (x : Sight) (s t : CoreState) (total since : ℕ) → Keeps c trim mode p total since s → Acts c mode x s t → is_write x ≡ false → (held_by x s.held ≡ true → since_by x since ≤ 32644) → Keeps c trim mode p (pulses_by x + total) (since_by x since) t × (t.held ≡ held_by x s.held)
  keeps_on (Took n) s t total since kept acts quiet short =
      let P : CoreState → Type 0 = λ u. Keeps c trim mode p (n + total) (n + since) u × (u.held ≡ s.held) in
      subst P (sym acts) (keeps_pulses n since total s kept (λ h. omega (arith, short h)), pulses_held c n s)
  keeps_on Held s t total since kept acts quiet short =
      let P : CoreState → Type 0 = λ u. Keeps c trim mode p (0 + total) 0 u × (u.held ≡ true) in
      subst P (sym acts.1) (keeps_hold total since s kept acts.0, refl)
  keeps_on Released s t total since kept acts quiet short =
      let P : CoreState → Type 0 = λ u. Keeps c trim mode p (0 + total) (0 + since) u × (u.held ≡ false) in
      subst P (sym acts.1) (same_counts total since (released_core c s) (keeps_release s.position s.second since total s.held s.waits s.map s.trim kept), refl)
  keeps_on Wrote s t total since kept acts quiet short = let e : ◌≡◌ {A = ℕ} 0 1 = cc in absurd (omega arith)
  keeps_on (Gave bytes) s t total since kept acts quiet short =
      let P : CoreState → Type 0 = λ u. Keeps c trim mode p (0 + total) (0 + since) u × (u.held ≡ s.held) in
      subst P (sym acts.0) (same_counts total since s kept, refl)
  keeps_on Nothing s t total since kept acts quiet short =
      let stands : s.map.mode ≡ mode = ap (λ (w : MapState). w.mode) kept.coded in
      let P : CoreState → Type 0 = λ u. Keeps c trim mode p (0 + total) (0 + since) u × (u.held ≡ s.held) in
      subst P (sym (acts stands)) (same_counts total since s kept, refl)
