-- What seconds a list gives out: its levels say when, and the map of the core says which.
use Rattle.std.proofs.Common.{◌≡◌, ℕ, Bool, true, false, ◌&&◌, List, [], ◌∷◌, ◌++◌, length, get_or, Some, None, Option, sym, refl, ap, ◌∙◌}
use Rattle.register_map.specs.declared.hour_mode.HourMode.{HourMode}
use Rattle.register_map.specs.Chart.{MapState}
use Rattle.byte_map.specs.Cells.{byte_chart}
use Rattle.clock_core.specs.Core.{CoreState}
use Rattle.rx5c348a.specs.Part.{PartState}
use Rattle.timekeeping.specs.Logs.{Sight, Took, Held, Released, Wrote, Gave, Nothing, Log, hear, state_after, log_with, sights_of}
use Rattle.timekeeping.proofs.Heard.{Truly}
use Rattle.timekeeping.proofs.Keeping.{Acts}
use Rattle.rx5c348a_runs.specs.declared.call.WireCall.{WireCall}
use Rattle.rx5c348a_runs.specs.Onlooker.{Notes, silent}
use Rattle.rx5c348a_runs.specs.Calls.{do_call, work_one, notes, call_sight, part_machine}
use Rattle.rx5c348a_runs.specs.Example.{with_seconds, seconds_given}
use Rattle.clock_core.proofs.Effects.{pulses_map}
use Rattle.rx5c348a_runs.proofs.Tracking.{Tracks, never}
use Rattle.rx5c348a_runs.proofs.Runs.{tracked, part_true}
use Rattle.rx5c348a_runs.proofs.Shapes.{mark, shape, noted_deaf, seen_deaf, all_accepted, accepts, first_of, second_of_both, Alike, after_call}

-- what a shape adds where the seconds' cell has this byte
abbrev filled : ℕ → Option ℕ → Option ℕ
filled byte (Some _) = Some byte
filled byte None = None

abbrev pub with_byte : ℕ → Sight → List (Option ℕ) → List (Option ℕ)
with_byte byte (Gave bytes) before = filled byte (bytes 0) ∷ before
with_byte byte _ before = before

-- whether a sight leaves the map of a core alone, held or not
abbrev still : Bool → Sight → Bool
still held (Took _) = held
still held Released = false
still held Wrote = false
still held _ = true

-- whether it gives no cells
abbrev gives_none : Sight → Bool
gives_none (Gave _) = false
gives_none _ = true

still_shape : (held : Bool) (x : Sight) → still held (shape x) ≡ still held x
still_shape held (Gave b) = refl
still_shape held _ = refl

filled_mark : (byte : ℕ) (o : Option ℕ) → ((v : ℕ) → o ≡ Some v → v ≡ byte) → o ≡ filled byte (mark o)
filled_mark byte (Some v) is = ap Some (is v refl)
filled_mark byte None is = refl

gives_none_is : (x : Sight) (before : List (Option ℕ)) → gives_none (shape x) ≡ true → with_seconds x before ≡ before
gives_none_is (Gave b) before e = never e
gives_none_is _ before e = refl

-- the notes after a list, SO being unheard
unfoldable pub noted_with : Notes → List WireCall → Notes
noted_with q [] = q
noted_with q (call ∷ calls) = noted_with (noted_deaf q call) calls

-- two lists, one upon the other
pub log_joined : (start : PartState) (calls more : List WireCall) (log : Log part_machine) → log_with part_machine start log (calls ++ more) ≡ log_with part_machine start (log_with part_machine start log calls) more
unfolding log_with
log_joined start [] more log = refl
log_joined start (call ∷ calls) more log = log_joined start calls more (hear part_machine start log call ∷ log)

module _ (mode : HourMode) where
  abbrev pub seconds : Log part_machine → List (Option ℕ)
  seconds log = seconds_given (sights_of part_machine mode log)

  -- what is given out stands in the cells
  given_from : (x : Sight) (s t : CoreState) (before : List (Option ℕ)) → Acts byte_chart mode x s t → length s.map.cells ≡ 7 → with_seconds x before ≡ with_byte (get_or s.map.cells 0 0) (shape x) before
  given_from (Gave bytes) s t before acts whole =
      ap (λ (o : Option ℕ). o ∷ before) (filled_mark (get_or s.map.cells 0 0) (bytes 0) (acts.1 whole 0))
  given_from _ s t before acts whole = refl

  still_map : (x : Sight) (s t : CoreState) → Acts byte_chart mode x s t → s.map.mode ≡ mode → still s.held x ≡ true → t.map ≡ s.map
  still_map (Took n) s t acts stands e = ap (λ (u : CoreState). u.map) acts ∙ pulses_map byte_chart n s e
  still_map Held s t acts stands e = ap (λ (u : CoreState). u.map) acts.1
  still_map Released s t acts stands e = never e
  still_map Wrote s t acts stands e = never e
  still_map (Gave b) s t acts stands e = ap (λ (u : CoreState). u.map) acts.0
  still_map Nothing s t acts stands e = ap (λ (u : CoreState). u.map) (acts stands)

  -- whether every call of a list leaves the map alone
  unfoldable pub all_still : Notes → List WireCall → Bool
  all_still q [] = true
  all_still q (call ∷ calls) = still q.ce (seen_deaf mode q call) && all_still (noted_deaf q call) calls

  -- whether none gives cells
  unfoldable pub none_given : Notes → List WireCall → Bool
  none_given q [] = true
  none_given q (call ∷ calls) = gives_none (shape (seen_deaf mode q call)) && none_given (noted_deaf q call) calls

  -- what a list gives out where the seconds' cell has this byte
  unfoldable pub given_with : Notes → ℕ → List (Option ℕ) → List WireCall → List (Option ℕ)
  given_with q byte before [] = before
  given_with q byte before (call ∷ calls) = given_with (noted_deaf q call) byte (with_byte byte (shape (seen_deaf mode q call)) before) calls

  module _ (start : PartState) (t : Tracks silent start) where
    abbrev part_at : Log part_machine → PartState
    part_at log = state_after part_machine start log

    -- along a list that leaves the map alone
    pub gives_standing : (calls : List WireCall) (log : Log part_machine) (q : Notes) (m : MapState) (before : List (Option ℕ)) → Truly part_machine mode start log → Alike (notes log) q → (part_at log).file.core.map ≡ m → m.mode ≡ mode → length m.cells ≡ 7 → seconds log ≡ before → all_accepted q calls ≡ true → all_still q calls ≡ true → seconds (log_with part_machine start log calls) ≡ given_with q (get_or m.cells 0 0) before calls
    unfolding log_with sights_of seconds_given given_with all_accepted all_still notes work_one state_after
    gives_standing [] log q m before truly alike here stands whole same ok calm = same
    gives_standing (call ∷ calls) log q m before truly alike here stands whole same ok calm =
        let p : PartState = part_at log in
        let tracks : Tracks (notes log) p = tracked mode start t log truly in
        let after = after_call mode (notes log) p tracks q alike call (first_of (accepts q call) _ ok) in
        let x : Sight = call_sight mode (notes log) call (do_call p call).0 in
        let acts : Acts byte_chart mode x p.file.core (do_call p call).1.file.core = part_true start t mode (hear part_machine start log call) log (refl, truly) in
        let held : p.file.core.held ≡ q.ce = tracks.held ∙ ap (λ (n : Notes). n.ce) alike.is in
        let alone : still p.file.core.held x ≡ true =
        ap (λ (b : Bool). still b x) held
        ∙ sym (still_shape q.ce x)
        ∙ ap (still q.ce) after.seen
        ∙ still_shape q.ce (seen_deaf mode q call)
        ∙ first_of (still q.ce (seen_deaf mode q call)) _ calm in
        let kept : (do_call p call).1.file.core.map ≡ p.file.core.map =
        still_map x p.file.core (do_call p call).1.file.core acts (ap (λ (w : MapState). w.mode) here ∙ stands) alone in
        gives_standing calls (hear part_machine start log call ∷ log) (noted_deaf q call) m (with_byte (get_or m.cells 0 0) (shape (seen_deaf mode q call)) before) (refl, truly) after.noted
        (kept ∙ here) stands whole
        (given_from x p.file.core (do_call p call).1.file.core (seconds log) acts (ap (λ (w : MapState). length w.cells) here ∙ whole)
        ∙ ap (λ (w : MapState). with_byte (get_or w.cells 0 0) (shape x) (seconds log)) here
        ∙ ap (λ (y : Sight). with_byte (get_or m.cells 0 0) y (seconds log)) after.seen
        ∙ ap (with_byte (get_or m.cells 0 0) (shape (seen_deaf mode q call))) same)
        (second_of_both (accepts q call) _ ok) (second_of_both (still q.ce (seen_deaf mode q call)) _ calm)

    -- along a list that gives no cells
    pub gives_nothing : (calls : List WireCall) (log : Log part_machine) (q : Notes) (before : List (Option ℕ)) → Truly part_machine mode start log → Alike (notes log) q → seconds log ≡ before → all_accepted q calls ≡ true → none_given q calls ≡ true → seconds (log_with part_machine start log calls) ≡ before
    unfolding log_with sights_of seconds_given all_accepted none_given notes work_one state_after
    gives_nothing [] log q before truly alike same ok quiet = same
    gives_nothing (call ∷ calls) log q before truly alike same ok quiet =
        let p : PartState = part_at log in
        let after = after_call mode (notes log) p (tracked mode start t log truly) q alike call (first_of (accepts q call) _ ok) in
        let x : Sight = call_sight mode (notes log) call (do_call p call).0 in
        gives_nothing calls (hear part_machine start log call ∷ log) (noted_deaf q call) before (refl, truly) after.noted
        (gives_none_is x (seconds log) (ap gives_none after.seen ∙ first_of (gives_none (shape (seen_deaf mode q call))) _ quiet) ∙ same)
        (second_of_both (accepts q call) _ ok) (second_of_both (gives_none (shape (seen_deaf mode q call))) _ quiet)

    -- the notes after a list
    pub alike_with : (calls : List WireCall) (log : Log part_machine) (q : Notes) → Truly part_machine mode start log → Alike (notes log) q → all_accepted q calls ≡ true → Alike (notes (log_with part_machine start log calls)) (noted_with q calls)
    unfolding log_with all_accepted noted_with notes work_one state_after
    alike_with [] log q truly alike ok = alike
    alike_with (call ∷ calls) log q truly alike ok =
        let after = after_call mode (notes log) (part_at log) (tracked mode start t log truly) q alike call (first_of (accepts q call) _ ok) in
        alike_with calls (hear part_machine start log call ∷ log) (noted_deaf q call) (refl, truly) after.noted (second_of_both (accepts q call) _ ok)
