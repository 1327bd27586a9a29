-- Cells that are written keep to their used bits, and make the row of the fields with the new number in place.
use Rattle.std.proofs.Common.{◌≡◌, ℕ, ◌+◌, ◌*◌, ◌/◌, ◌%◌, ◌<◌, List, IsTrue, get_or, set, sym, subst, ap, ap₂, ◌∙◌, arith}
use lib.Bits.{bit_and}
use Rattle.register_map.specs.declared.hour_mode.HourMode.{HourMode}
use Rattle.calendar.specs.Dates.{CivilDate}
use Rattle.calendar.specs.declared.reading.Reading.{Reading}
use Rattle.calendar.specs.Fields.{Fields}
use Rattle.calendar.specs.Views.{fields_read}
use Rattle.civil_map.specs.Changes.{with_second, with_minute, with_hour, with_weekday, with_date}
use Rattle.civil_map.specs.Masks.{all_masked}
use Rattle.civil_map.proofs.Masking.{all_masked_set, all_masked_row}
use Rattle.byte_map.specs.Cells.{used_bits, number_cell, hour_cell, month_cell, row}
use Rattle.byte_map.specs.MaskLaws.{month_bits}
use Rattle.byte_map.specs.RowLaws.{spells}

-- a cell that its mask does not change
pub set_kept : (cells : List ℕ) (k byte : ℕ) → IsTrue (all_masked used_bits cells) → bit_and byte (get_or used_bits k 0) ≡ byte → IsTrue (all_masked used_bits (set cells k byte))
set_kept = all_masked_set used_bits

-- a century bit and five bits of a month
pub month_kept : (x : ℕ) → x < 256 → x % 128 < 32 → bit_and x 0x9F ≡ x
month_kept x h k =
    let e : 128 * (x / 128) + x % 128 ≡ x = omega arith in
    rw e at (month_bits (x / 128) (x % 128) (omega arith) k)

pub row_kept : (cells : List ℕ) (m : HourMode) (r : Reading) → cells ≡ row m (fields_read r) → r.date.year < 200 → IsTrue (all_masked used_bits cells)
row_kept cells m r e h = subst (λ cells. IsTrue (all_masked used_bits cells)) (sym e) (all_masked_row spells m r h)

module _ (cells : List ℕ) (x : ℕ) (m : HourMode) (f : Fields) (spelt : cells ≡ row m f) where
  pub second_row : (second : ℕ) → x ≡ number_cell second → set cells 0 x ≡ row m (with_second second f)
  unfolding row
  second_row second e = ap₂ (λ cells x. set cells 0 x) spelt e

  pub minute_row : (minute : ℕ) → x ≡ number_cell minute → set cells 1 x ≡ row m (with_minute minute f)
  unfolding row
  minute_row minute e = ap₂ (λ cells x. set cells 1 x) spelt e

  pub hour_row : (hour : ℕ) → x ≡ hour_cell m hour → set cells 2 x ≡ row m (with_hour hour f)
  unfolding row
  hour_row hour e = ap₂ (λ cells x. set cells 2 x) spelt e

  pub weekday_row : set cells 3 x ≡ row m (with_weekday x f)
  unfolding row
  weekday_row = ap (λ cells. set cells 3 x) spelt

  pub date_row : (y z : ℕ) (on : CivilDate) → x ≡ number_cell on.day → y ≡ month_cell on.year on.month → z ≡ number_cell (on.year % 100) → set (set (set cells 4 x) 5 y) 6 z ≡ row m (with_date on f)
  unfolding row
  date_row y z on day month year =
      ap₂ (λ cells x. set (set (set cells 4 x) 5 y) 6 z) spelt day
      ∙ ap₂ (λ y z. set (set (set (row m f) 4 (number_cell on.day)) 5 y) 6 z) month year
