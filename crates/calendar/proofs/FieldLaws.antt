-- A map that writes fields and reads them back keeps the rules of a register map.
use Rattle.std.proofs.Common.{◌≡◌, ℕ, ◌+◌, ◌%◌, List, Some, None, Option, sym, refl, ap, ◌∙◌, subst, arith}
use Rattle.std.specs.Option.{option_map}
use Rattle.std.proofs.lemmas.Bool.{eq-eqb, ne_eqb}
use Rattle.register_map.specs.Chart.{Chart, Showable, Lawful, map_state, weekday_after, second_of, second_after, advanced_from, advanced}
use Rattle.register_map.specs.declared.shown.Shown.{Shown}
use Rattle.register_map.specs.declared.hour_mode.HourMode.{HourMode}
use Rattle.calendar.specs.Dates.{next_date}
use Rattle.calendar.specs.Times.{second_of_day, next_time}
use Rattle.calendar.specs.Moments.{civil, moment_of, civil_of, cycle_of, next_civil}
use Rattle.calendar.specs.Fields.{Fields, fields, LawfulFields, shown_of, fields_of, next_fields, chart_of, Spells}
use Rattle.calendar.proofs.TimeLaws.{ticks}
use Rattle.calendar.proofs.MomentLaws.{civil_of_moment, moment_of_civil, lawful_civil, year_in_cycle, moment_in_cycle, advances}

pub fields_of_shown : (years : ℕ) (f : Fields) → LawfulFields years f → fields_of (shown_of f) ≡ f
fields_of_shown years f ok = rw (civil_of_moment f.civil ok.a_civil)

pub shown_of_fields : (p : Shown) → shown_of (fields_of p) ≡ p
shown_of_fields p = rw (moment_of_civil p.moment)

-- midnight shows in the moment as in the time of day
midnight : (f : Fields) (years : ℕ) → LawfulFields years f → (moment_of f.civil + 1) % 86400 ≡ second_of_day (next_time f.civil.at_time)
midnight f years ok = omega (arith, (ticks f.civil.at_time ok.a_civil.a_time).stepped)

-- the seconds value of the moment shown is the second of the time of day
pub second_shown : (years : ℕ) (f : Fields) → LawfulFields years f → second_of (shown_of f) ≡ f.civil.at_time.second
second_shown years f ok = omega (arith, ok.a_civil.a_time)

-- the fields a second later
pub steps : (years : ℕ) (f : Fields) → LawfulFields years f → (c : Chart) → c.cycle ≡ cycle_of years → fields_of (second_after c (shown_of f)) ≡ next_fields years f
steps years f ok c e =
    let a = advances years f.civil ok.a_civil ok.in_years in
    let on : civil_of ((moment_of f.civil + 1) % c.cycle) ≡ next_civil years f.civil = ap (λ n. civil_of ((moment_of f.civil + 1) % n)) e ∙ ap civil_of (sym a.stepped) ∙ civil_of_moment (next_civil years f.civil) a.lawful in
    rw (on, midnight f years ok)

-- the fields a second later, within the day and at midnight
pub same_day : (years : ℕ) (f : Fields) → (second_of_day (next_time f.civil.at_time) ≡ 0 → ⊥) → next_fields years f ≡ fields (civil f.civil.on (next_time f.civil.at_time)) f.weekday
same_day years f h = rw (ne_eqb (second_of_day (next_time f.civil.at_time)) 0 h)

pub new_day : (years : ℕ) (f : Fields) → second_of_day (next_time f.civil.at_time) ≡ 0 → next_fields years f ≡ fields (civil (next_date years f.civil.on) (next_time f.civil.at_time)) (weekday_after f.weekday)
new_day years f h = rw (eq-eqb (second_of_day (next_time f.civil.at_time)) 0 h)

module _ (years count : ℕ) (used : List ℕ) (written : HourMode → Fields → List ℕ) (read : HourMode → List ℕ → Option Fields) (spells : Spells years count used written read) where
  lawful_fields : (p : Shown) → Showable (chart_of years count used written read) p → LawfulFields years (fields_of p)
  lawful_fields p ok = record { a_civil = lawful_civil p.moment; in_years = year_in_cycle years p.moment ok.in_cycle; in_week = ok.in_week }

  code_shows : (m : HourMode) (p : Shown) → Showable (chart_of years count used written read) p → option_map shown_of (read m (written m (fields_of p))) ≡ Some p
  code_shows m p ok = ap (option_map shown_of) (spells.written_reads m (fields_of p) (lawful_fields p ok)) ∙ ap Some (shown_of_fields p)

  shown_is_coded : (m : HourMode) (cells : List ℕ) (p : Shown) → option_map shown_of (read m cells) ≡ Some p → (written m (fields_of p) ≡ cells) × Showable (chart_of years count used written read) p
  shown_is_coded m cells p e = by_reading (read m cells) refl e
    where
      by_reading : (o : Option Fields) → read m cells ≡ o → option_map shown_of o ≡ Some p → (written m (fields_of p) ≡ cells) × Showable (chart_of years count used written read) p
      by_reading None r e = absurd (grind arith)
      by_reading (Some f) r e =
          let w = spells.read_is_written m cells f r in
          let s : shown_of f ≡ p = grind arith in
          let here : (written m (fields_of (shown_of f)) ≡ cells) × Showable (chart_of years count used written read) (shown_of f) = (
            ap (written m) (fields_of_shown years f w.1) ∙ w.0,
            record { in_cycle = moment_in_cycle years f.civil w.1.a_civil w.1.in_years; in_week = w.1.in_week },
          ) in
          subst (λ (q : Shown). (written m (fields_of q) ≡ cells) × Showable (chart_of years count used written read) q) s here

  codes_differ : (m : HourMode) (p q : Shown) → Showable (chart_of years count used written read) p → Showable (chart_of years count used written read) q → written m (fields_of p) ≡ written m (fields_of q) → p ≡ q
  codes_differ m p q a b e =
      let x = code_shows m p a in
      let y = code_shows m q b in
      let z : Some p ≡ Some q = sym x ∙ ap (λ cells. option_map shown_of (read m cells)) e ∙ y in
      grind arith

  pub lawful_chart : Lawful (chart_of years count used written read)
  lawful_chart =
      record {
        few_cells = spells.few_cells;
        not_empty = omega (arith, spells.some_years);
        whole_days = omega arith;
        bounded = omega (arith, spells.few_years);
        a_mask_each = spells.a_mask_each;
        masks_are_bytes = spells.masks_are_bytes;
        code_length = λ m p. spells.written_length m (fields_of p);
        code_masked = λ m p ok. spells.written_masked m (fields_of p) (lawful_fields p ok);
        code_shows = code_shows;
        shown_is_coded = shown_is_coded;
        codes_differ = codes_differ;
      }

  -- a map that reads fields advances to those a second later
  pub advanced_read : (m : HourMode) (cells : List ℕ) (f : Fields) → read m cells ≡ Some f → advanced (chart_of years count used written read) (map_state cells m) ≡ map_state (written m (next_fields years f)) m
  advanced_read m cells f r =
      ap (advanced_from (chart_of years count used written read) (map_state cells m)) (ap (option_map shown_of) r)
      ∙ ap (λ g. map_state (written m g) m) (steps years f (spells.read_is_written m cells f r).1 (chart_of years count used written read) refl)
