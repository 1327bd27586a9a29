-- The cells that change make the row of the fields a second later.
use Rattle.std.proofs.Common.{◌≡◌, ℕ, List, Some, Option, sym, ap, ◌∙◌, arith}
use Rattle.register_map.specs.Chart.{map_state, weekday_after, advanced}
use Rattle.register_map.specs.declared.hour_mode.HourMode.{HourMode}
use Rattle.calendar.specs.Dates.{CivilDate, next_date}
use Rattle.calendar.specs.Times.{ClockTime, second_of_day, next_time}
use Rattle.calendar.specs.Moments.{civil}
use Rattle.calendar.specs.Fields.{Fields, fields, LawfulFields, next_fields, chart_of, Spells}
use Rattle.calendar.proofs.TimeLaws.{kept_minute, kept_hour}
use Rattle.calendar.proofs.FieldLaws.{same_day, new_day, advanced_read}
use Rattle.civil_map.specs.Changes.{with_second, with_minute, with_hour, with_weekday, with_date}

module _ {years count : ℕ} {used : List ℕ} {written : HourMode → Fields → List ℕ} {read : HourMode → List ℕ → Option Fields} (spells : Spells years count used written read) where
  -- What putting a number into cells does to each row of fields.
  abbrev Puts : HourMode → List ℕ → List ℕ → (Fields → Fields) → Type 0
  Puts m before after change = (f : Fields) → before ≡ written m f → after ≡ written m (change f)

  -- cells and fields that they spell
  module _ {m : HourMode} {cells : List ℕ} {f : Fields} (r : read m cells ≡ Some f) where
    pub lawful : LawfulFields years f
    lawful = (spells.read_is_written m cells f r).1

    spelt : cells ≡ written m f
    spelt = sym (spells.read_is_written m cells f r).0

    -- the row of the fields a second later is what the map advances to
    goes_on : {row : List ℕ} → row ≡ written m (next_fields years f) → map_state row m ≡ advanced (chart_of years count used written read) (map_state cells m)
    goes_on next =
        ap (λ row. map_state row m) next
        ∙ sym (advanced_read years count used written read spells m cells f r)

    -- the time a second later, and the cells after each number
    module _ {u : ClockTime} (e : u ≡ next_time f.civil.at_time) {a : List ℕ} (second : Puts m cells a (with_second u.second)) where
      -- within the day
      within : (second_of_day u ≡ 0 → ⊥) → written m (fields (civil f.civil.on u) f.weekday) ≡ written m (next_fields years f)
      within h =
          sym (ap (written m) (same_day years f (λ z. h (ap second_of_day e ∙ z)) ∙ ap (λ v. fields (civil f.civil.on v) f.weekday) (sym e)))

      pub new_second : (u.second ≡ 0 → ⊥) → map_state a m ≡ advanced (chart_of years count used written read) (map_state cells m)
      new_second h =
          goes_on
          (
          second f spelt
          ∙ ap (λ v. written m (fields (civil f.civil.on v) f.weekday)) (sym (kept_minute f.civil.at_time u e h))
          ∙ within (λ z. h (omega arith))
          )

      module _ {b : List ℕ} (minute : Puts m a b (with_minute u.minute)) where
        pub new_minute : u.second ≡ 0 → (u.minute ≡ 0 → ⊥) → map_state b m ≡ advanced (chart_of years count used written read) (map_state cells m)
        new_minute z h =
            goes_on
            (
            minute (with_second u.second f) (second f spelt)
            ∙ ap (λ v. written m (fields (civil f.civil.on v) f.weekday)) (sym (kept_hour f.civil.at_time u e z h))
            ∙ within (λ z. h (omega arith))
            )

        module _ {c : List ℕ} (hour : Puts m b c (with_hour u.hour)) where
          timed : c ≡ written m (fields (civil f.civil.on u) f.weekday)
          timed = hour (with_minute u.minute (with_second u.second f)) (minute (with_second u.second f) (second f spelt))

          pub new_hour : (u.hour ≡ 0 → ⊥) → map_state c m ≡ advanced (chart_of years count used written read) (map_state cells m)
          new_hour h = goes_on (timed ∙ within (λ z. h (omega arith)))

          pub new_date : {w v : List ℕ} {d : CivilDate} → Puts m c w (with_weekday (weekday_after f.weekday)) → Puts m w v (with_date d) → d ≡ next_date years f.civil.on → second_of_day u ≡ 0 → map_state v m ≡ advanced (chart_of years count used written read) (map_state cells m)
          new_date {d = d} weekday date g h =
              let on = fields (civil f.civil.on u) in
              goes_on
              (
              date (on (weekday_after f.weekday)) (weekday (on f.weekday) timed)
              ∙ ap (λ v. written m (fields (civil d v) (weekday_after f.weekday))) e
              ∙ ap (λ v. written m (fields (civil v (next_time f.civil.at_time)) (weekday_after f.weekday))) g
              ∙ sym (ap (written m) (new_day years f (ap second_of_day (sym e) ∙ h)))
              )
