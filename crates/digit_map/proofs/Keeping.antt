-- Cells that are written keep to their used bits, and make the row of the fields with the new number in place.
use Rattle.std.proofs.Common.{◌≡◌, ℕ, ◌<◌, List, IsTrue, get_or, set, sym, subst, ap, ap₂, ◌∙◌}
use lib.Bits.{bit_and}
use Rattle.register_map.specs.declared.hour_mode.HourMode.{HourMode}
use Rattle.calendar.specs.Dates.{CivilDate}
use Rattle.calendar.specs.Digits.{digits_of, hour_digits}
use Rattle.calendar.specs.declared.digits.Digits.{Digits}
use Rattle.calendar.specs.declared.reading.Reading.{Reading}
use Rattle.calendar.specs.Fields.{Fields}
use Rattle.calendar.specs.Views.{fields_read}
use Rattle.civil_map.specs.Changes.{with_second, with_minute, with_hour, with_weekday, with_date}
use Rattle.civil_map.specs.Masks.{all_masked}
use Rattle.civil_map.proofs.Masking.{all_masked_set, all_masked_row}
use Rattle.digit_map.specs.Cells.{used_bits, row, digits_put}
use Rattle.digit_map.specs.RowLaws.{spells}

-- a digit that its mask does not change
pub set_kept : (cells : List ℕ) (k digit : ℕ) → IsTrue (all_masked used_bits cells) → bit_and digit (get_or used_bits k 0) ≡ digit → IsTrue (all_masked used_bits (set cells k digit))
set_kept = all_masked_set used_bits

pub row_kept : (cells : List ℕ) (m : HourMode) (r : Reading) → cells ≡ row m (fields_read r) → r.date.year < 100 → IsTrue (all_masked used_bits cells)
row_kept cells m r e h = subst (λ cells. IsTrue (all_masked used_bits cells)) (sym e) (all_masked_row spells m r h)

module _ (cells : List ℕ) (m : HourMode) (f : Fields) (spelt : cells ≡ row m f) where
  module _ (d : Digits) where
    pub second_row : (second : ℕ) → d ≡ digits_of second → digits_put cells 0 d ≡ row m (with_second second f)
    unfolding row
    second_row second e = ap₂ (λ cells d. digits_put cells 0 d) spelt e

    pub minute_row : (minute : ℕ) → d ≡ digits_of minute → digits_put cells 2 d ≡ row m (with_minute minute f)
    unfolding row
    minute_row minute e = ap₂ (λ cells d. digits_put cells 2 d) spelt e

    pub hour_row : (hour : ℕ) → d ≡ hour_digits m 4 hour → digits_put cells 4 d ≡ row m (with_hour hour f)
    unfolding row
    hour_row hour e = ap₂ (λ cells d. digits_put cells 4 d) spelt e

  pub weekday_row : (weekday : ℕ) → set cells 12 weekday ≡ row m (with_weekday weekday f)
  unfolding row
  weekday_row weekday = ap (λ cells. set cells 12 weekday) spelt

  pub date_row : (d n y : Digits) (on : CivilDate) → d ≡ digits_of on.day → n ≡ digits_of on.month → y ≡ digits_of on.year → digits_put (digits_put (digits_put cells 6 d) 8 n) 10 y ≡ row m (with_date on f)
  unfolding row
  date_row d n y on day month year =
      ap₂ (λ cells d. digits_put (digits_put (digits_put cells 6 d) 8 n) 10 y) spelt day
      ∙ ap₂ (λ n y. digits_put (digits_put (digits_put (row m f) 6 (digits_of on.day)) 8 n) 10 y) month year
