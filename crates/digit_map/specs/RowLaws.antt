-- The fields and the row that they are written in are each other's inverse, and a written row has no unused bit.
use Rattle.std.specs.Prelude.{◌≡◌, ℕ, ◌/◌, ◌%◌, ◌<◌, ◌≤◌, List, map, length, replicate, Some, None, ◌==◌, bit_and, nat_lt, slice_index, slice_index_or, refl}
use Rattle.std.proofs.Common.{sym, ap, subst, ◌∙◌, arith}
use Rattle.std.specs.List.{range_with_len}
use Rattle.std.proofs.lemmas.Bool.{eq-eqb, lt-ltb, ltb-true, eqb-true}
use Rattle.std.proofs.lemmas.List.FromFn.{fill_by_all}
use Rattle.register_map.specs.Chart.{Lawful}
use Rattle.register_map.specs.declared.hour_mode.HourMode.{HourMode}
use Rattle.register_map.specs.declared.hour_mode.HourMode.TheVariants.{Twelve}
use Rattle.calendar.specs.Moments.{civil}
use Rattle.calendar.specs.Digits.{digits_of, hour_digits}
use Rattle.calendar.specs.Spelling.{then, time_spelt, date_spelt, weekday_in}
use Rattle.calendar.specs.Fields.{Fields, fields, LawfulFields, Spells}
use Rattle.calendar.proofs.MonthLaws.{day_at_most}
use Rattle.calendar.proofs.DigitLaws.{passes, admits, hour_small}
use Rattle.calendar.proofs.SpellingLaws.{first_read, time_spelt_is, SpellsTime, spells_time, date_spelt_as, SpellsDate, spells_date}
use Rattle.calendar.proofs.CellLaws.{low_bits, masked_at, byte_at, same_row}
use Rattle.calendar.proofs.FieldLaws.{lawful_chart}
use Rattle.civil_map.specs.Changes.{fields_spelt}
use Rattle.digit_map.specs.Cells.{used_bits, row, digits_in, fields_in, row_read, digit_chart}

pub row_length : (m : HourMode) (f : Fields) → length (row m f) ≡ 13
unfolding row
row_length m f = refl

pub row_masked : (m : HourMode) (f : Fields) → LawfulFields 100 f → (k : ℕ) → bit_and (slice_index (row m f) k) (slice_index used_bits k) ≡ slice_index (row m f) k
unfolding row
row_masked m f ok =
    let t = f.civil.at_time in
    let d = f.civil.on in
    let lawful = ok.a_civil.a_date in
    let clock = ok.a_civil.a_time in
    let hour = hour_small m 4 t.hour (omega arith) clock.an_hour in
    let day = day_at_most d.year d.month d.day lawful.from_january lawful.to_december lawful.to_last in
    masked_at (row m f) used_bits (
      low_bits (t.second % 10) 4 (omega arith),
      (
        low_bits (t.second / 10) 3 (omega (arith, clock.a_second)),
        (
          low_bits (t.minute % 10) 4 (omega arith),
          (
            low_bits (t.minute / 10) 3 (omega (arith, clock.a_minute)),
            (
              low_bits (hour_digits m 4 t.hour).units 4 (omega (arith, hour.1)),
              (
                low_bits (hour_digits m 4 t.hour).tens 3 (omega (arith, hour.0)),
                (
                  low_bits (d.day % 10) 4 (omega arith),
                  (
                    low_bits (d.day / 10) 2 (omega (arith, day)),
                    (
                      low_bits (d.month % 10) 4 (omega arith),
                      (
                        low_bits (d.month / 10) 1 (omega (arith, lawful.to_december)),
                        (
                          low_bits (d.year % 10) 4 (omega arith),
                          (low_bits (d.year / 10) 4 (omega (arith, ok.in_years)), (low_bits f.weekday 3 (omega (arith, ok.in_week)), tt)),
                        ),
                      ),
                    ),
                  ),
                ),
              ),
            ),
          ),
        ),
      ),
    )

-- what thirteen cells spell, by their time of day, date and weekday
pub row_spelt : (m : HourMode) (cells : List ℕ) → length cells ≡ 13 → row_read m cells ≡ fields_spelt (time_spelt m 4 (digits_in cells 4) (digits_in cells 2) (digits_in cells 0)) (date_spelt 0 (digits_in cells 10) (digits_in cells 8) (digits_in cells 6)) (slice_index cells 12)
unfolding row_read fields_in
row_spelt m cells h = rw (eq-eqb (length cells) 13 h)

pub row_reads : (m : HourMode) (f : Fields) → LawfulFields 100 f → row_read m (row m f) ≡ Some f
unfolding row row_read fields_in
row_reads m f ok =
    let t = f.civil.at_time in
    let d = f.civil.on in
    let century : 0 ≡ d.year / 100 = omega (arith, ok.in_years) in
    let year : d.year ≡ d.year % 100 = omega (arith, ok.in_years) in
    let on = date_spelt_as d 0 (digits_of d.year) (digits_of d.month) (digits_of d.day) ok.a_civil.a_date century (ap digits_of year) refl refl in
    rw (time_spelt_is m 4 t (omega arith) ok.a_civil.a_time, on, lt-ltb f.weekday 7 ok.in_week)

-- thirteen cells, one by one
cells_are : (cells : List ℕ) → length cells ≡ 13 → map (λ k. slice_index cells k) (range_with_len 0 13) ≡ cells
cells_are cells h = sym (fill_by_all (λ k. slice_index cells k) cells 13 0 h (λ k _. refl))

-- What is known of cells that spell fields.
record Spelt (m : HourMode) (cells : List ℕ) (f : Fields) : Type 0 where
  of_time : SpellsTime m 4 (digits_in cells 4) (digits_in cells 2) (digits_in cells 0) f.civil.at_time
  of_date : SpellsDate 0 (digits_in cells 10) (digits_in cells 8) (digits_in cells 6) f.civil.on
  of_weekday : f.weekday ≡ slice_index cells 12
  in_week : slice_index_or cells 12 0 < 7

some_same : (x y : Fields) → Some x ≡ Some y → x ≡ y
some_same x y e = cc

spelt : (m : HourMode) (cells : List ℕ) (f : Fields) → fields_in m cells ≡ Some f → Spelt m cells f
unfolding fields_in
spelt m cells f e =
    let t = first_read (time_spelt m 4 (digits_in cells 4) (digits_in cells 2) (digits_in cells 0)) (λ t. then (date_spelt 0 (digits_in cells 10) (digits_in cells 8) (digits_in cells 6)) λ d. then (weekday_in (slice_index cells 12)) λ w. Some (fields (civil d t) w)) f e in
    let d = first_read (date_spelt 0 (digits_in cells 10) (digits_in cells 8) (digits_in cells 6)) (λ d. then (weekday_in (slice_index cells 12)) λ w. Some (fields (civil d t.0) w)) f t.2 in
    let w = first_read (weekday_in (slice_index cells 12)) (λ w. Some (fields (civil d.0 t.0) w)) f d.2 in
    let week = passes (nat_lt (slice_index cells 12) 7) (slice_index cells 12) w.0 w.1 in
    let here : Spelt m cells (fields (civil d.0 t.0) w.0) =
    record {
      of_time = spells_time m 4 (digits_in cells 4) (digits_in cells 2) (digits_in cells 0) t.0 (omega arith) t.1;
      of_date = spells_date 0 (digits_in cells 10) (digits_in cells 8) (digits_in cells 6) d.0 d.1;
      of_weekday = sym week.1;
      in_week = ltb-true (slice_index cells 12) 7 week.0;
    } in
    subst (Spelt m cells) {x = fields (civil d.0 t.0) w.0} (some_same (fields (civil d.0 t.0) w.0) f w.2) here

pub read_is_row : (m : HourMode) (cells : List ℕ) (f : Fields) → row_read m cells ≡ Some f → (row m f ≡ cells) × LawfulFields 100 f
unfolding row_read row
read_is_row m cells f e =
    let p = admits (length cells == 13) (fields_in m cells) f e in
    let s = spelt m cells f p.1 in
    let t = s.of_time in
    let d = s.of_date in
    let century : f.civil.on.year < 100 = omega (arith, d.of_century) in
    let short : f.civil.on.year % 100 ≡ f.civil.on.year = omega (arith, century) in
    let year = ap digits_of (sym short) ∙ d.of_year in (
      same_row (row m f) (map (λ k. slice_index cells k) (range_with_len 0 13)) (
        ap (λ d. d.units) t.of_second,
        (
          ap (λ d. d.tens) t.of_second,
          (
            ap (λ d. d.units) t.of_minute,
            (
              ap (λ d. d.tens) t.of_minute,
              (
                ap (λ d. d.units) t.of_hour,
                (
                  ap (λ d. d.tens) t.of_hour,
                  (
                    ap (λ d. d.units) d.of_day,
                    (
                      ap (λ d. d.tens) d.of_day,
                      (
                        ap (λ d. d.units) d.of_month,
                        (ap (λ d. d.tens) d.of_month, (ap (λ d. d.units) year, (ap (λ d. d.tens) year, (s.of_weekday, tt)))),
                      ),
                    ),
                  ),
                ),
              ),
            ),
          ),
        ),
      )
          ∙ cells_are cells (eqb-true (length cells) 13 p.0),
      record {
        a_civil = record { a_date = d.lawful; a_time = t.lawful };
        in_years = century;
        in_week = omega (arith, s.of_weekday, s.in_week);
      },
    )

pub spells : Spells 100 13 used_bits row row_read
spells =
    record {
      some_years = omega arith;
      few_years = omega arith;
      few_cells = omega arith;
      a_mask_each = refl;
      masks_are_bytes = byte_at used_bits (omega arith);
      written_length = row_length;
      written_masked = row_masked;
      written_reads = row_reads;
      read_is_written = read_is_row;
    }

pub years_fit : 100 ≤ 200
years_fit = omega arith

pub digit_chart_lawful : Lawful digit_chart
digit_chart_lawful = lawful_chart 100 13 used_bits row row_read spells

-- the zeros of a fresh map show no moment
pub fresh_shows_none : digit_chart.reads Twelve (replicate 13 0) ≡ None
unfolding fields_in row_read
fresh_shows_none = refl
