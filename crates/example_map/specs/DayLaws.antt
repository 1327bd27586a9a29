-- The day map keeps the rules of a register map.
use Rattle.std.specs.Prelude.{◌≡◌, ℕ, ◌+◌, ◌*◌, ◌/◌, ◌%◌, ◌<◌, true, ◌&&◌, List, map, length, Some, ◌==◌, nat_lt, slice_index, slice_index_or, refl}
use Rattle.std.proofs.Common.{sym, ap, subst, ◌∙◌, arith}
use Rattle.std.specs.List.{range_with_len}
use Rattle.std.proofs.lemmas.Bool.{lt-ltb, ltb-true, eqb-true, and_parts}
use Rattle.std.proofs.lemmas.List.FromFn.{fill_by_all}
use Rattle.register_map.specs.Chart.{Showable, Lawful}
use Rattle.register_map.specs.declared.shown.Shown.{Shown}
use Rattle.register_map.specs.declared.hour_mode.HourMode.{HourMode}
use Rattle.calendar.proofs.DigitLaws.{passes}
use Rattle.calendar.proofs.CellLaws.{low_bits, masked_at, byte_at, same_row}
use Rattle.example_map.specs.Cells.{used_bits, code, in_range, spelt, reads, day_chart}

-- Cells in range, one by one.
record Ranged (cells : List ℕ) : Type 0 where
  four : length cells ≡ 4
  second : slice_index_or cells 0 0 < 60
  minute : slice_index_or cells 1 0 < 60
  hour : slice_index_or cells 2 0 < 24
  weekday : slice_index_or cells 3 0 < 7

ranged : (cells : List ℕ) → in_range cells ≡ true → Ranged cells
ranged cells e =
    let w = and_parts (length cells == 4 && nat_lt (slice_index cells 0) 60 && nat_lt (slice_index cells 1) 60 && nat_lt (slice_index cells 2) 24) (nat_lt (slice_index cells 3) 7) e in
    let h = and_parts (length cells == 4 && nat_lt (slice_index cells 0) 60 && nat_lt (slice_index cells 1) 60) (nat_lt (slice_index cells 2) 24) w.0 in
    let m = and_parts (length cells == 4 && nat_lt (slice_index cells 0) 60) (nat_lt (slice_index cells 1) 60) h.0 in
    let s = and_parts (length cells == 4) (nat_lt (slice_index cells 0) 60) m.0 in
    record {
      four = eqb-true (length cells) 4 s.0;
      second = ltb-true (slice_index cells 0) 60 s.1;
      minute = ltb-true (slice_index cells 1) 60 m.1;
      hour = ltb-true (slice_index cells 2) 24 h.1;
      weekday = ltb-true (slice_index cells 3) 7 w.1;
    }

-- the code of a moment and weekday shows them
code_shows : (m : HourMode) (p : Shown) → Showable day_chart p → reads m (code m p) ≡ Some p
code_shows m p ok =
    let value : 3600 * (p.moment / 3600) + 60 * (p.moment / 60 % 60) + p.moment % 60 ≡ p.moment = omega arith in
    let second : p.moment % 60 < 60 = omega arith in
    let minute : p.moment / 60 % 60 < 60 = omega arith in
    let hour : p.moment / 3600 < 24 = omega (arith, ok.in_cycle) in
    rw (lt-ltb (p.moment % 60) 60 second, lt-ltb (p.moment / 60 % 60) 60 minute, lt-ltb (p.moment / 3600) 24 hour, lt-ltb p.weekday 7 ok.in_week, value)

-- what cells show has them as its code
shown_is_coded : (m : HourMode) (cells : List ℕ) (p : Shown) → reads m cells ≡ Some p → (code m p ≡ cells) × Showable day_chart p
shown_is_coded m cells p e =
    let t = passes (in_range cells) (spelt cells) p e in
    let r = ranged cells t.0 in
    let here : (code m (spelt cells) ≡ cells) × Showable day_chart (spelt cells) = (
      same_row (code m (spelt cells)) (map (λ k. slice_index cells k) (range_with_len 0 4)) (omega arith, (omega arith, (omega arith, (refl, tt))))
          ∙ sym (fill_by_all (λ k. slice_index cells k) cells 4 0 r.four (λ k _. refl)),
      record { in_cycle = omega arith; in_week = r.weekday },
    ) in
    subst (λ (q : Shown). (code m q ≡ cells) × Showable day_chart q) t.1 here

same_shown : (p q : Shown) → Some p ≡ Some q → p ≡ q
same_shown p q e = cc

pub day_chart_lawful : Lawful day_chart
day_chart_lawful =
    record {
      few_cells = omega arith;
      not_empty = omega arith;
      whole_days = refl;
      bounded = omega arith;
      a_mask_each = refl;
      masks_are_bytes = byte_at used_bits (omega arith);
      code_length = λ m p. refl;
      code_masked = λ m p ok.
          masked_at (code m p) used_bits (
            low_bits (p.moment % 60) 6 (omega arith),
            (low_bits (p.moment / 60 % 60) 6 (omega arith), (low_bits (p.moment / 3600) 5 (omega (arith, ok.in_cycle)), (low_bits p.weekday 3 (omega (arith, ok.in_week)), tt))),
          );
      code_shows = code_shows;
      shown_is_coded = shown_is_coded;
      codes_differ = λ m p q a b e. same_shown p q (sym (code_shows m p a) ∙ ap (reads m) e ∙ code_shows m q b);
    }
