-- A written row has no unused bit.
use Rattle.std.specs.Prelude.{◌≡◌, ℕ, zero, suc, ◌+◌, ◌*◌, ◌/◌, ◌%◌, ◌<◌, Bool, true, ◌&&◌, ◌==◌, bit_and, slice_index, refl}
use Rattle.std.proofs.Common.{arith}
use Rattle.std.proofs.lemmas.Bool.Decides.{Decides-eqb, Decides-below_and}
use Rattle.register_map.specs.declared.hour_mode.HourMode.{HourMode}
use Rattle.calendar.specs.Fields.{Fields, LawfulFields}
use Rattle.calendar.proofs.DigitLaws.{hour_small}
use Rattle.calendar.proofs.MonthLaws.{day_at_most}
use Rattle.calendar.proofs.CellLaws.{low_bits, masked_at}
use Rattle.byte_map.specs.Cells.{used_bits, number_cell, hour_cell, row}

-- the century bit and a number below 32 are kept by the mask of the month cell, at each of them
kept : ℕ → ℕ → Bool
kept century n = bit_and (128 * century + n) 0x9F == 128 * century + n

abbrev all_kept : ℕ → ℕ → Bool
all_kept century zero = true
all_kept century (suc n) = kept century n && all_kept century n

pub month_bits : (century n : ℕ) → century < 2 → n < 32 → bit_and (128 * century + n) 0x9F ≡ 128 * century + n
unfolding kept
month_bits zero n h k =
    (Decides-below_and (kept 0) (λ n. bit_and (128 * 0 + n) 0x9F ≡ 128 * 0 + n) (all_kept 0) (λ n. Decides-eqb (bit_and (128 * 0 + n) 0x9F) (128 * 0 + n)) refl (λ _. refl) 32).0 refl n k
month_bits (suc zero) n h k =
    (Decides-below_and (kept 1) (λ n. bit_and (128 * 1 + n) 0x9F ≡ 128 * 1 + n) (all_kept 1) (λ n. Decides-eqb (bit_and (128 * 1 + n) 0x9F) (128 * 1 + n)) refl (λ _. refl) 32).0 refl n k
month_bits (suc (suc c)) n h k = absurd (omega arith)

hour_below : (m : HourMode) (hour : ℕ) → hour < 24 → hour_cell m hour < 64
hour_below m hour h = omega (arith, hour_small m 2 hour (omega arith) h)

pub row_masked : (m : HourMode) (f : Fields) → LawfulFields 200 f → (k : ℕ) → bit_and (slice_index (row m f) k) (slice_index used_bits k) ≡ slice_index (row m f) k
unfolding row
row_masked m f ok =
    let t = f.civil.at_time in
    let d = f.civil.on in
    let lawful = ok.a_civil.a_date in
    let clock = ok.a_civil.a_time in
    let day = day_at_most d.year d.month d.day lawful.from_january lawful.to_december lawful.to_last in
    masked_at (row m f) used_bits (
      low_bits (number_cell t.second) 7 (omega (arith, clock.a_second)),
      (
        low_bits (number_cell t.minute) 7 (omega (arith, clock.a_minute)),
        (
          low_bits (hour_cell m t.hour) 6 (hour_below m t.hour clock.an_hour),
          (
            low_bits f.weekday 3 (omega (arith, ok.in_week)),
            (
              low_bits (number_cell d.day) 6 (omega (arith, day)),
              (
                month_bits (d.year / 100) (number_cell d.month) (omega (arith, ok.in_years)) (omega (arith, lawful.to_december)),
                (low_bits (number_cell (d.year % 100)) 8 (omega arith), tt),
              ),
            ),
          ),
        ),
      ),
    )
