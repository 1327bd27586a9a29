-- Cells that keep to their used bits.
use Rattle.std.proofs.Common.{◌≡◌, ℕ, zero, suc, ◌<◌, eqb, List, [], ◌∷◌, Option, IsTrue, get_or, set, refl, ap, ◌∙◌}
use lib.Bits.{bit_and, and_self}
use Rattle.std.proofs.lemmas.Bool.{eq-eqb, and_parts, and_from}
use Rattle.std.proofs.lemmas.Nat.{and_assoc}
use Rattle.register_map.specs.declared.hour_mode.HourMode.{HourMode}
use Rattle.calendar.specs.Fields.{Fields, LawfulFields, Spells}
use Rattle.calendar.specs.Views.{fields_read}
use Rattle.calendar.specs.declared.reading.Reading.{Reading}
use Rattle.civil_map.specs.Masks.{all_masked}

-- a byte masked twice
pub masked_twice : (byte mask : ℕ) → bit_and (bit_and byte mask) mask ≡ bit_and byte mask
masked_twice byte mask = and_assoc mask byte mask ∙ ap (bit_and byte) (and_self mask)

-- cells that masking does not change, one by one
pub all_masked_each : (used cells : List ℕ) → ((k : ℕ) → bit_and (get_or cells k 0) (get_or used k 0) ≡ get_or cells k 0) → IsTrue (all_masked used cells)
all_masked_each [] cells h = refl
all_masked_each (u ∷ us) [] h = refl
all_masked_each (u ∷ us) (c ∷ cs) h =
    and_from (eqb (bit_and c u) c) (all_masked us cs) (eq-eqb (bit_and c u) c (h zero)) (all_masked_each us cs (λ k. h (suc k)))

-- a cell that masking does not change is put
pub all_masked_set : (used cells : List ℕ) (k x : ℕ) → IsTrue (all_masked used cells) → bit_and x (get_or used k 0) ≡ x → IsTrue (all_masked used (set cells k x))
all_masked_set [] cells k x h e = refl
all_masked_set (u ∷ us) [] k x h e = h
all_masked_set (u ∷ us) (c ∷ cs) zero x h e =
    let p = and_parts (eqb (bit_and c u) c) (all_masked us cs) h in
    and_from (eqb (bit_and x u) x) (all_masked us cs) (eq-eqb (bit_and x u) x e) p.1
all_masked_set (u ∷ us) (c ∷ cs) (suc k) x h e =
    let p = and_parts (eqb (bit_and c u) c) (all_masked us cs) h in
    and_from (eqb (bit_and c u) c) (all_masked us (set cs k x)) p.0 (all_masked_set us cs k x p.1 e)

-- what is read from cells is lawful
lawful : (years : ℕ) (r : Reading) → r.date.year < years → LawfulFields years (fields_read r)
lawful years r h =
    record {
      a_civil =
          record {
            a_date =
                record {
                  from_january = r.date.from_january;
                  to_december = r.date.to_december;
                  from_first = r.date.from_first;
                  to_last = r.date.to_last;
                };
            a_time = record { an_hour = r.time.an_hour; a_minute = r.time.a_minute; a_second = r.time.a_second };
          };
      in_years = h;
      in_week = r.in_week;
    }

-- the row of a reading keeps to the used bits
pub all_masked_row : {years count : ℕ} {used : List ℕ} {written : HourMode → Fields → List ℕ} {read : HourMode → List ℕ → Option Fields} (spells : Spells years count used written read) (m : HourMode) (r : Reading) → r.date.year < years → IsTrue (all_masked used (written m (fields_read r)))
all_masked_row {years} {count} {used} {written} {read} spells m r h =
    all_masked_each used (written m (fields_read r)) (spells.written_masked m (fields_read r) (lawful years r h))
