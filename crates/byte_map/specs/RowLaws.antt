-- The fields and the row that they are written in are each other's inverse.
use Rattle.std.specs.Prelude.{◌≡◌, ℕ, ◌/◌, ◌%◌, ◌<◌, ◌≤◌, List, map, length, replicate, Some, None, ◌==◌, nat_lt, slice_index, slice_index_or, refl}
use Rattle.std.proofs.Common.{sym, ap, subst, ◌∙◌, arith}
use Rattle.std.specs.List.{range_with_len}
use Rattle.std.proofs.lemmas.Bool.{cond-true, eq-eqb, lt-ltb, ltb-true, eqb-true}
use Rattle.std.proofs.lemmas.List.FromFn.{fill_by_all}
use Rattle.register_map.specs.Chart.{Lawful}
use Rattle.register_map.specs.declared.hour_mode.HourMode.{HourMode}
use Rattle.register_map.specs.declared.hour_mode.HourMode.TheVariants.{Twelve}
use Rattle.calendar.specs.Dates.{CivilDate, LawfulDate}
use Rattle.calendar.specs.Times.{ClockTime, LawfulTime}
use Rattle.calendar.specs.Moments.{civil}
use Rattle.calendar.specs.Digits.{digits_of, packed, unpacked, hour_digits}
use Rattle.calendar.specs.Spelling.{then, date_spelt, weekday_in}
use Rattle.calendar.specs.Fields.{Fields, fields, LawfulFields, Spells}
use Rattle.calendar.proofs.DigitLaws.{passes, admits, hour_small, unpacked_packed, packed_unpacked}
use Rattle.calendar.proofs.SpellingLaws.{first_read, time_spelt_as, SpellsTime, spells_time, date_spelt_as, SpellsDate, spells_date}
use Rattle.calendar.proofs.CellLaws.{byte_at, same_row}
use Rattle.calendar.proofs.FieldLaws.{lawful_chart}
use Rattle.civil_map.specs.Changes.{fields_spelt}
use Rattle.byte_map.specs.Cells.{used_bits, number_cell, hour_cell, month_cell, row, date_in, time_in, fields_in, row_read, byte_chart}
use Rattle.byte_map.specs.MaskLaws.{row_masked}

pub row_length : (m : HourMode) (f : Fields) → length (row m f) ≡ 7
unfolding row
row_length m f = refl

-- what seven cells spell, by their time of day, date and weekday
pub row_spelt : (m : HourMode) (cells : List ℕ) → length cells ≡ 7 → row_read m cells ≡ fields_spelt (time_in m (slice_index cells 2) (slice_index cells 1) (slice_index cells 0)) (date_in (slice_index cells 4) (slice_index cells 5) (slice_index cells 6)) (slice_index cells 3)
unfolding row_read fields_in
row_spelt m cells h = rw (eq-eqb (length cells) 7 h)

-- the time and date cells, written and read
time_reads : (m : HourMode) (t : ClockTime) → LawfulTime t → time_in m (hour_cell m t.hour) (number_cell t.minute) (number_cell t.second) ≡ Some t
time_reads m t ok =
    time_spelt_as m 2 t (unpacked (hour_cell m t.hour)) (unpacked (number_cell t.minute)) (unpacked (number_cell t.second)) (omega arith) ok
    (unpacked_packed (hour_digits m 2 t.hour) (omega (arith, hour_small m 2 t.hour (omega arith) ok.an_hour)))
    (unpacked_packed (digits_of t.minute) (omega arith))
    (unpacked_packed (digits_of t.second) (omega arith))

date_reads : (d : CivilDate) → LawfulDate d → d.year < 200 → date_in (number_cell d.day) (month_cell d.year d.month) (number_cell (d.year % 100)) ≡ Some d
date_reads d ok h =
    let months = month_cell d.year d.month in
    let century : months / 128 ≡ d.year / 100 = omega (arith, ok.to_december) in
    let month : months % 128 ≡ number_cell d.month = omega (arith, ok.to_december) in
    let two : months / 128 < 2 = omega arith in
    cond-true (nat_lt (months / 128) 2) (date_spelt (months / 128) (unpacked (number_cell (d.year % 100))) (unpacked (months % 128)) (unpacked (number_cell d.day))) None (lt-ltb (months / 128) 2 two)
    ∙ date_spelt_as d (months / 128) (unpacked (number_cell (d.year % 100))) (unpacked (months % 128)) (unpacked (number_cell d.day)) ok century
    (unpacked_packed (digits_of (d.year % 100)) (omega arith))
    (ap unpacked month ∙ unpacked_packed (digits_of d.month) (omega arith))
    (unpacked_packed (digits_of d.day) (omega arith))

pub row_reads : (m : HourMode) (f : Fields) → LawfulFields 200 f → row_read m (row m f) ≡ Some f
unfolding row row_read fields_in
row_reads m f ok =
    rw (time_reads m f.civil.at_time ok.a_civil.a_time, date_reads f.civil.on ok.a_civil.a_date ok.in_years, lt-ltb f.weekday 7 ok.in_week)

-- seven cells, one by one
cells_are : (cells : List ℕ) → length cells ≡ 7 → map (λ k. slice_index cells k) (range_with_len 0 7) ≡ cells
cells_are cells h = sym (fill_by_all (λ k. slice_index cells k) cells 7 0 h (λ k _. refl))

some_same : (x y : Fields) → Some x ≡ Some y → x ≡ y
some_same x y e = cc

-- What is known of cells that spell fields.
record Spelt (m : HourMode) (cells : List ℕ) (f : Fields) : Type 0 where
  of_time : SpellsTime m 2 (unpacked (slice_index cells 2)) (unpacked (slice_index cells 1)) (unpacked (slice_index cells 0)) f.civil.at_time
  of_date : SpellsDate (slice_index cells 5 / 128) (unpacked (slice_index cells 6)) (unpacked (slice_index cells 5 % 128)) (unpacked (slice_index cells 4)) f.civil.on
  of_century : slice_index_or cells 5 0 / 128 < 2
  of_weekday : f.weekday ≡ slice_index cells 3
  in_week : slice_index_or cells 3 0 < 7

spelt : (m : HourMode) (cells : List ℕ) (f : Fields) → fields_in m cells ≡ Some f → Spelt m cells f
unfolding fields_in
spelt m cells f e =
    let t = first_read (time_in m (slice_index cells 2) (slice_index cells 1) (slice_index cells 0)) (λ t. then (date_in (slice_index cells 4) (slice_index cells 5) (slice_index cells 6)) λ d. then (weekday_in (slice_index cells 3)) λ w. Some (fields (civil d t) w)) f e in
    let d = first_read (date_in (slice_index cells 4) (slice_index cells 5) (slice_index cells 6)) (λ d. then (weekday_in (slice_index cells 3)) λ w. Some (fields (civil d t.0) w)) f t.2 in
    let w = first_read (weekday_in (slice_index cells 3)) (λ w. Some (fields (civil d.0 t.0) w)) f d.2 in
    let century = admits (nat_lt (slice_index cells 5 / 128) 2) (date_spelt (slice_index cells 5 / 128) (unpacked (slice_index cells 6)) (unpacked (slice_index cells 5 % 128)) (unpacked (slice_index cells 4))) d.0 d.1 in
    let week = passes (nat_lt (slice_index cells 3) 7) (slice_index cells 3) w.0 w.1 in
    let here : Spelt m cells (fields (civil d.0 t.0) w.0) =
    record {
      of_time = spells_time m 2 (unpacked (slice_index cells 2)) (unpacked (slice_index cells 1)) (unpacked (slice_index cells 0)) t.0 (omega arith) t.1;
      of_date = spells_date (slice_index cells 5 / 128) (unpacked (slice_index cells 6)) (unpacked (slice_index cells 5 % 128)) (unpacked (slice_index cells 4)) d.0 century.1;
      of_century = ltb-true (slice_index cells 5 / 128) 2 century.0;
      of_weekday = sym week.1;
      in_week = ltb-true (slice_index cells 3) 7 week.0;
    } in
    subst (Spelt m cells) {x = fields (civil d.0 t.0) w.0} (some_same (fields (civil d.0 t.0) w.0) f w.2) here

pub read_is_row : (m : HourMode) (cells : List ℕ) (f : Fields) → row_read m cells ≡ Some f → (row m f ≡ cells) × LawfulFields 200 f
unfolding row_read row
read_is_row m cells f e =
    let p = admits (length cells == 7) (fields_in m cells) f e in
    let s = spelt m cells f p.1 in
    let t = s.of_time in
    let d = s.of_date in
    let month : month_cell f.civil.on.year f.civil.on.month ≡ slice_index_or cells 5 0 = omega (arith, d.of_century, ap packed d.of_month, packed_unpacked (slice_index cells 5 % 128)) in (
      same_row (row m f) (map (λ k. slice_index cells k) (range_with_len 0 7)) (
        ap packed t.of_second ∙ packed_unpacked (slice_index cells 0),
        (
          ap packed t.of_minute ∙ packed_unpacked (slice_index cells 1),
          (
            ap packed t.of_hour ∙ packed_unpacked (slice_index cells 2),
            (
              s.of_weekday,
              (ap packed d.of_day ∙ packed_unpacked (slice_index cells 4), (month, (ap packed d.of_year ∙ packed_unpacked (slice_index cells 6), tt))),
            ),
          ),
        ),
      )
          ∙ cells_are cells (eqb-true (length cells) 7 p.0),
      record {
        a_civil = record { a_date = d.lawful; a_time = t.lawful };
        in_years = omega (arith, d.of_century, s.of_century);
        in_week = omega (arith, s.of_weekday, s.in_week);
      },
    )

pub spells : Spells 200 7 used_bits row row_read
spells =
    record {
      some_years = omega arith;
      few_years = omega arith;
      few_cells = omega arith;
      a_mask_each = refl;
      masks_are_bytes = byte_at used_bits (omega arith);
      written_length = row_length;
      written_masked = row_masked;
      written_reads = row_reads;
      read_is_written = read_is_row;
    }

pub years_fit : 200 ≤ 200
years_fit = omega arith

pub byte_chart_lawful : Lawful byte_chart
byte_chart_lawful = lawful_chart 200 7 used_bits row row_read spells

-- the zeros of a fresh map show no moment
pub fresh_shows_none : byte_chart.reads Twelve (replicate 7 0) ≡ None
unfolding fields_in row_read
fresh_shows_none = refl
