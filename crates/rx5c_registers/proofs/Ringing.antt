-- An alarm rings exactly when its minute comes up on one of its days.
use Rattle.std.proofs.Common.{◌≡◌, ℕ, zero, suc, ◌+◌, ◌%◌, ◌<◌, Bool, true, false, cond, not, ◌&&◌, ◌||◌, eqb, ltb, get_or, Some, None, Ok, Err, Option, sym, refl, ap, ◌∙◌, subst, mod-lt, arith, eqb-true}
use Rattle.refusals.specs.declared.Refusal.TheVariants.{NotHeld}
use Rattle.register_map.specs.declared.shown.Shown.{Shown}
use Rattle.register_map.specs.Chart.{Showable, shown_by, second_after, weekday_after, advanced, advanced_from}
use Rattle.byte_map.specs.Cells.{byte_chart}
use Rattle.byte_map.specs.RowLaws.{byte_chart_lawful}
use Rattle.clock_core.specs.Core.{CoreState, at_position, waiting, with_map, begin_second, cross_boundary, one_pulse, many_pulses, released as core_released, release_core, Accepted}
use Rattle.rx5c_registers.specs.declared.alarm.AlarmRow.{AlarmRow}
use Rattle.rx5c_registers.specs.Alarms.{comes_up, with_flag, rung}
use Rattle.rx5c_registers.specs.File.{FileState, with_core, alarm}
use Rattle.rx5c_registers.specs.Clock.{at_minute, minute_begun, pulse_taken, pulses_taken, released}
use Rattle.rx5c_registers.proofs.Effects.{pulse_core, released_core}
use Rattle.rx5c_registers.specs.Ringing.{MinuteBegins, ItsMinuteBegins, RingsWithin, RowRings, AlarmsRing, RowRingsAtRelease, AlarmsRingAtRelease}

weekday_stays : (w : ℕ) (b : Bool) → w < 7 → cond b (weekday_after w) w < 7
weekday_stays w true h = omega arith
weekday_stays w false h = h

-- the second after what can be shown can be shown
showable_after : (p : Shown) → Showable byte_chart p → Showable byte_chart (second_after byte_chart p)
showable_after p ok =
    record {
      in_cycle = mod-lt (p.moment + 1) byte_chart_lawful.not_empty;
      in_week = weekday_stays p.weekday (eqb ((p.moment + 1) % 86400) 0) ok.in_week;
    }

never : {A : Type 0} → ◌≡◌ {A = Bool} false true → A
never e = let z : ◌≡◌ {A = ℕ} 0 1 = cc in absurd (omega arith)

module _ (s t : CoreState) where
  -- an advance that comes to seconds 00 begins a minute
  begins : (o : Option Shown) → shown_by byte_chart s.map ≡ o → t.map ≡ advanced byte_chart s.map → at_minute (shown_by byte_chart t.map) ≡ true → MinuteBegins s t
  begins None e moved h =
      let none : shown_by byte_chart t.map ≡ None = ap (shown_by byte_chart) moved ∙ ap (λ o. shown_by byte_chart (advanced_from byte_chart s.map o)) e ∙ e in
      never (sym (ap at_minute none) ∙ h)
  begins (Some q) e moved h =
      let ok = byte_chart_lawful.shown_is_coded s.map.mode s.map.cells q e in
      let next : shown_by byte_chart t.map ≡ Some (second_after byte_chart q) =
      ap (shown_by byte_chart) moved ∙ ap (λ o. shown_by byte_chart (advanced_from byte_chart s.map o)) e
      ∙ byte_chart_lawful.code_shows s.map.mode (second_after byte_chart q) (showable_after q ok.1) in
      record { from = q; showed = e; shows = next; on_minute = eqb-true _ _ (sym (ap at_minute next) ∙ h) }

  -- a map that has not moved begins none
  unmoved : {A : Type 0} → t.map ≡ s.map → MinuteBegins s t → A
  unmoved same b =
      let ok = byte_chart_lawful.shown_is_coded s.map.mode s.map.cells b.from b.showed in
      let here : Some b.from ≡ Some (second_after byte_chart b.from) = sym b.showed ∙ sym (ap (shown_by byte_chart) same) ∙ b.shows in
      let one : b.from ≡ second_after byte_chart b.from = cc in
      let moment : b.from.moment ≡ (b.from.moment + 1) % 6311520000 = ap (λ (p : Shown). p.moment) one in
      let below : b.from.moment < 6311520000 = ok.1.in_cycle in
      absurd (omega arith)

  on_the_minute : MinuteBegins s t → at_minute (shown_by byte_chart t.map) ≡ true
  on_the_minute b = ap at_minute b.shows ∙ ap (λ (n : ℕ). eqb n 0) b.on_minute

-- a row that looks at the cells, or does not
abbrev row_after : Bool → CoreState → AlarmRow → AlarmRow
row_after looks t row = cond looks (rung (get_or t.map.cells 1 0) (get_or t.map.cells 2 0) (get_or t.map.cells 3 0) row) row

module _ (s t : CoreState) (row : AlarmRow) where
  abbrev own : Bool
  own = comes_up row (get_or t.map.cells 1 0) (get_or t.map.cells 2 0) (get_or t.map.cells 3 0)

  raised : (flag enabled its : Bool) → enabled ≡ true → its ≡ true → (flag || (enabled && its)) ≡ true
  raised true enabled its e c = refl
  raised false true its e c = c
  raised false false its e c = never e

  why : (flag enabled its : Bool) → flag ≡ false → (flag || (enabled && its)) ≡ true → (enabled ≡ true) × (its ≡ true)
  why true enabled its f h = never (sym f)
  why false true its f h = (refl, h)
  why false false its f h = never h

  kept_up : (flag more : Bool) → flag ≡ true → (flag || more) ≡ true
  kept_up true more e = refl
  kept_up false more e = never e

  -- a row that looks exactly when a minute begins rings exactly when its own does
  row_rings : (looks : Bool) → (MinuteBegins s t → looks ≡ true) → (looks ≡ true → MinuteBegins s t) → RowRingsAtRelease s t row (row_after looks t row)
  row_rings true so then =
      record {
        rings = λ r. raised row.flag row.enabled own r.enabled r.its_own;
        only_then = λ down up. let w = why row.flag row.enabled own down up in record { enabled = w.0; begins = then refl; its_own = w.1 };
        stays_up = λ up. kept_up row.flag _ up;
        settings_stay = refl;
      }
  row_rings false so then =
      record {
        rings = λ r. never (so r.begins);
        only_then = λ down up. never (sym down ∙ up);
        stays_up = λ up. up;
        settings_stay = refl;
      }

-- a pulse looks at the alarms where it crosses a boundary, released, and comes to seconds 00
abbrev pulse_looks : Bool → Bool → Bool → Bool
pulse_looks within held minute = not within && (not held && minute)

module _ (f : FileState) where
  abbrev next : CoreState
  next = cross_boundary byte_chart f.core

  abbrev step : Bool → Bool → Bool → FileState
  step within held minute =
      cond within (with_core f (at_position f.core (f.core.position + 1)))
      (cond held (with_core f next) (cond minute (minute_begun (with_core f next)) (with_core f next)))

  abbrev core_step : Bool → CoreState
  core_step within = cond within (at_position f.core (f.core.position + 1)) next

  step_weekly : (within held minute : Bool) → alarm (step within held minute) 0 ≡ row_after (pulse_looks within held minute) (core_step within) (alarm f 0)
  step_weekly true held minute = refl
  step_weekly false true minute = refl
  step_weekly false false true = refl
  step_weekly false false false = refl

  step_daily : (within held minute : Bool) → alarm (step within held minute) 1 ≡ row_after (pulse_looks within held minute) (core_step within) (alarm f 1)
  step_daily true held minute = refl
  step_daily false true minute = refl
  step_daily false false true = refl
  step_daily false false false = refl

  -- the map after a boundary
  boundary_map : (held : Bool) → (begin_second byte_chart (cond held (waiting f.core true) (with_map f.core (advanced byte_chart f.core.map)))).map ≡ cond held f.core.map (advanced byte_chart f.core.map)
  boundary_map true = refl
  boundary_map false = refl

  looks_when : (within held minute : Bool) → f.core.held ≡ held → at_minute (shown_by byte_chart next.map) ≡ minute → MinuteBegins f.core (core_step within) → pulse_looks within held minute ≡ true
  looks_when true held minute h m b = unmoved f.core (at_position f.core (f.core.position + 1)) refl b
  looks_when false true minute h m b =
      unmoved f.core next (boundary_map f.core.held ∙ ap (λ (k : Bool). cond k f.core.map (advanced byte_chart f.core.map)) h) b
  looks_when false false minute h m b = sym m ∙ on_the_minute f.core next b

  begins_when : (within held minute : Bool) → f.core.held ≡ held → at_minute (shown_by byte_chart next.map) ≡ minute → pulse_looks within held minute ≡ true → MinuteBegins f.core (core_step within)
  begins_when true held minute h m l = never l
  begins_when false true minute h m l = never l
  begins_when false false minute h m l =
      begins f.core next (shown_by byte_chart f.core.map) refl (boundary_map f.core.held ∙ ap (λ (k : Bool). cond k f.core.map (advanced byte_chart f.core.map)) h) (m ∙ l)

  abbrev looks : Bool
  looks = pulse_looks (ltb (f.core.position + 1) f.core.second) f.core.held (at_minute (shown_by byte_chart next.map))

  -- one pulse, for a row that it changes so
  pulse_row : (before after : AlarmRow) → after ≡ row_after looks (one_pulse byte_chart f.core) before → RowRingsAtRelease f.core (one_pulse byte_chart f.core) before after
  pulse_row before after e =
      subst (RowRingsAtRelease f.core (one_pulse byte_chart f.core) before) (sym e)
      (row_rings f.core (one_pulse byte_chart f.core) before looks
      (looks_when (ltb (f.core.position + 1) f.core.second) f.core.held (at_minute (shown_by byte_chart next.map)) refl refl)
      (begins_when (ltb (f.core.position + 1) f.core.second) f.core.held (at_minute (shown_by byte_chart next.map)) refl refl))

  pulse_weekly : RowRingsAtRelease f.core (one_pulse byte_chart f.core) (alarm f 0) (alarm (pulse_taken f) 0)
  pulse_weekly = pulse_row (alarm f 0) _ (step_weekly (ltb (f.core.position + 1) f.core.second) f.core.held (at_minute (shown_by byte_chart next.map)))

  pulse_daily : RowRingsAtRelease f.core (one_pulse byte_chart f.core) (alarm f 1) (alarm (pulse_taken f) 1)
  pulse_daily = pulse_row (alarm f 1) _ (step_daily (ltb (f.core.position + 1) f.core.second) f.core.held (at_minute (shown_by byte_chart next.map)))

-- rows that differ in their flag alone have the same minute
same_minute : (a b : AlarmRow) (s t : CoreState) → with_flag a false ≡ with_flag b false → ItsMinuteBegins a s t → ItsMinuteBegins b s t
same_minute a b s t e i =
    record {
      enabled = sym (ap (λ (row : AlarmRow). row.enabled) e) ∙ i.enabled;
      begins = i.begins;
      its_own =
          sym (ap (λ (row : AlarmRow). comes_up row (get_or t.map.cells 1 0) (get_or t.map.cells 2 0) (get_or t.map.cells 3 0)) e) ∙ i.its_own;
    }

-- no pulse
no_pulse : (core : CoreState) (row : AlarmRow) → RowRings zero core row row
no_pulse core row =
    record {
      rings = λ r. let none = r.soon in absurd (omega arith);
      only_then = λ down up. never (sym down ∙ up);
      stays_up = λ up. up;
      settings_stay = refl;
    }

module _ (n : ℕ) (core : CoreState) (before mid after : AlarmRow) (first : RowRingsAtRelease core (one_pulse byte_chart core) before mid) (rest : RowRings n (one_pulse byte_chart core) mid after) where
  rung_by : (k : ℕ) → k < suc n → ItsMinuteBegins before (many_pulses byte_chart k core) (many_pulses byte_chart (suc k) core) → after.flag ≡ true
  unfolding many_pulses
  rung_by zero soon i = rest.stays_up (first.rings i)
  rung_by (suc k) soon i =
      rest.rings (record { pulse = k; soon = omega arith; rings = same_minute before mid _ _ (sym first.settings_stay) i })

  found_by : (up : Bool) → mid.flag ≡ up → before.flag ≡ false → after.flag ≡ true → RingsWithin before (suc n) core
  unfolding many_pulses
  found_by true e down up = record { pulse = zero; soon = omega arith; rings = first.only_then down e }
  found_by false e down up =
      let later = rest.only_then e up in
      let soon = later.soon in
      record { pulse = suc later.pulse; soon = omega arith; rings = same_minute mid before _ _ first.settings_stay later.rings }

  one_more : RowRings (suc n) core before after
  one_more =
      record {
        rings = λ r. rung_by r.pulse r.soon r.rings;
        only_then = λ down up. found_by mid.flag refl down up;
        stays_up = λ up. rest.stays_up (first.stays_up up);
        settings_stay = rest.settings_stay ∙ first.settings_stay;
      }

pub alarms_ring : (n : ℕ) (f : FileState) → AlarmsRing n f (pulses_taken n f)
unfolding pulses_taken
alarms_ring zero f = record { weekly = no_pulse f.core (alarm f 0); daily = no_pulse f.core (alarm f 1) }
alarms_ring (suc n) f =
    let rest = alarms_ring n (pulse_taken f) in
    let after : FileState = pulses_taken n (pulse_taken f) in
    record {
      weekly =
          one_more n f.core (alarm f 0) (alarm (pulse_taken f) 0) (alarm after 0) (pulse_weekly f)
          (subst (λ (core : CoreState). RowRings n core (alarm (pulse_taken f) 0) (alarm after 0)) (pulse_core f) rest.weekly);
      daily =
          one_more n f.core (alarm f 1) (alarm (pulse_taken f) 1) (alarm after 1) (pulse_daily f)
          (subst (λ (core : CoreState). RowRings n core (alarm (pulse_taken f) 1) (alarm after 1)) (pulse_core f) rest.daily);
    }

-- A release.
module _ (f : FileState) (is_held_lem : f.core.held ≡ true) where
  abbrev let_go : CoreState
  let_go = (release_core byte_chart f.core).1

  abbrev gone : Bool → Bool → FileState
  gone waits minute =
      cond waits (cond minute (minute_begun (with_core f let_go)) (with_core f let_go)) (with_core f let_go)

  gone_weekly : (waits minute : Bool) → alarm (gone waits minute) 0 ≡ row_after (waits && minute) let_go (alarm f 0)
  gone_weekly true true = refl
  gone_weekly true false = refl
  gone_weekly false minute = refl

  gone_daily : (waits minute : Bool) → alarm (gone waits minute) 1 ≡ row_after (waits && minute) let_go (alarm f 1)
  gone_daily true true = refl
  gone_daily true false = refl
  gone_daily false minute = refl

  gone_map : let_go.map ≡ cond f.core.waits (advanced byte_chart f.core.map) f.core.map
  gone_map = ap (λ (h : Bool). (cond {A = Accepted × CoreState} h (Ok tt, core_released byte_chart f.core) (Err NotHeld, f.core)).1.map) is_held_lem

  waits_when : (waits minute : Bool) → f.core.waits ≡ waits → at_minute (shown_by byte_chart let_go.map) ≡ minute → MinuteBegins f.core let_go → (waits && minute) ≡ true
  waits_when true minute w m b = sym m ∙ on_the_minute f.core let_go b
  waits_when false minute w m b =
      unmoved f.core let_go (gone_map ∙ ap (λ (k : Bool). cond k (advanced byte_chart f.core.map) f.core.map) w) b

  begins_then : (waits minute : Bool) → f.core.waits ≡ waits → at_minute (shown_by byte_chart let_go.map) ≡ minute → (waits && minute) ≡ true → MinuteBegins f.core let_go
  begins_then true minute w m l =
      begins f.core let_go (shown_by byte_chart f.core.map) refl (gone_map ∙ ap (λ (k : Bool). cond k (advanced byte_chart f.core.map) f.core.map) w) (m ∙ l)
  begins_then false minute w m l = never l

  abbrev minute_after : Bool
  minute_after = at_minute (shown_by byte_chart let_go.map)

  gone_row : (before after : AlarmRow) → after ≡ row_after (f.core.waits && minute_after) let_go before → RowRingsAtRelease f.core let_go before after
  gone_row before after e =
      subst (RowRingsAtRelease f.core let_go before) (sym e)
      (row_rings f.core let_go before (f.core.waits && minute_after) (waits_when f.core.waits minute_after refl refl) (begins_then f.core.waits minute_after refl refl))

  pub alarms_ring_at_release : AlarmsRingAtRelease f (released f)
  alarms_ring_at_release =
      let core : (released f).core ≡ let_go = released_core f in
      record {
        weekly =
            subst (λ (t : CoreState). RowRingsAtRelease f.core t (alarm f 0) (alarm (released f) 0)) (sym core)
            (gone_row (alarm f 0) _ (gone_weekly f.core.waits minute_after));
        daily =
            subst (λ (t : CoreState). RowRingsAtRelease f.core t (alarm f 1) (alarm (released f) 1)) (sym core)
            (gone_row (alarm f 1) _ (gone_daily f.core.waits minute_after));
      }
