-- Digits and numbers, and digits and hours, are each other's inverse.
use Rattle.std.proofs.Common.{◌≡◌, ℕ, ◌+◌, ◌-◌, ◌*◌, ◌/◌, ◌%◌, ◌<◌, ◌≤◌, Bool, true, false, cond, ◌&&◌, ltb, leb, Some, None, Option, refl, ⊎_elim, arith}
use Rattle.std.proofs.lemmas.Bool.{lt-ltb, le-ltb, le-leb, ltb-true, leb-true, and_parts, and_from, cases_lt}
use Rattle.register_map.specs.declared.hour_mode.HourMode.{HourMode}
use Rattle.register_map.specs.declared.hour_mode.HourMode.TheVariants.{Twelve, TwentyFour}
use Rattle.calendar.specs.declared.digits.Digits.{Digits}
use Rattle.calendar.specs.Digits.{digits, digits_of, number_of, packed, unpacked, face, hour_digits, half_day, hour_of}

-- what a test lets through
pub passes : {A : Type 0} (b : Bool) (x y : A) → cond b (Some x) None ≡ Some y → (b ≡ true) × (x ≡ y)
passes true x y e = (refl, grind arith)
passes false x y e = absurd (grind arith)

-- what a test lets through, of what was read
pub admits : {A : Type 0} (b : Bool) (o : Option A) (y : A) → cond b o None ≡ Some y → (b ≡ true) × (o ≡ Some y)
admits true o y e = (refl, e)
admits false o y e = absurd (grind arith)

pub same_digits : (t u : ℕ) (d : Digits) → t ≡ d.tens → u ≡ d.units → digits t u ≡ d
same_digits t u d p q = rw (p, q)

pub number_of_digits : (n : ℕ) → n < 100 → number_of (digits_of n) ≡ Some n
number_of_digits n h =
    let ok = and_from (ltb (n / 10) 10) (ltb (n % 10) 10) (lt-ltb (n / 10) 10 (omega arith)) (lt-ltb (n % 10) 10 (omega arith)) in
    let value : 10 * (n / 10) + n % 10 ≡ n = omega arith in
    rw (ok, value)

pub digits_of_number : (d : Digits) (n : ℕ) → number_of d ≡ Some n → (n < 100) × (digits_of n ≡ d)
digits_of_number d n e =
    let p = passes (ltb d.tens 10 && ltb d.units 10) (10 * d.tens + d.units) n e in
    let q = and_parts (ltb d.tens 10) (ltb d.units 10) p.0 in
    let t = ltb-true d.tens 10 q.0 in
    let u = ltb-true d.units 10 q.1 in
    (omega arith, same_digits (n / 10) (n % 10) d (omega arith) (omega arith))

pub unpacked_packed : (d : Digits) → d.units < 16 → unpacked (packed d) ≡ d
unpacked_packed d h = same_digits (packed d / 16) (packed d % 16) d (omega arith) (omega arith)

pub packed_unpacked : (cell : ℕ) → packed (unpacked cell) ≡ cell
packed_unpacked cell = omega arith

-- a face from 1 to 12 is read
on_face : (begin tens units : ℕ) → units < 10 → 0 < 10 * tens + units → 10 * tens + units ≤ 12 → half_day begin tens units ≡ Some (begin + (10 * tens + units) % 12)
on_face begin tens units a b c =
    let ok = and_from (ltb units 10 && ltb 0 (10 * tens + units)) (leb (10 * tens + units) 12) (and_from (ltb units 10) (ltb 0 (10 * tens + units)) (lt-ltb units 10 a) (lt-ltb 0 (10 * tens + units) b)) (le-leb (10 * tens + units) 12 c) in
    rw ok

-- What is known of an hour read from a face.
record Faced (begin tens units hour : ℕ) : Type 0 where
  digit : units < 10
  low : 0 < 10 * tens + units
  high : 10 * tens + units ≤ 12
  value : begin + (10 * tens + units) % 12 ≡ hour

faced : (begin tens units hour : ℕ) → half_day begin tens units ≡ Some hour → Faced begin tens units hour
faced begin tens units hour e =
    let p = passes (ltb units 10 && ltb 0 (10 * tens + units) && leb (10 * tens + units) 12) (begin + (10 * tens + units) % 12) hour e in
    let q = and_parts (ltb units 10 && ltb 0 (10 * tens + units)) (leb (10 * tens + units) 12) p.0 in
    let r = and_parts (ltb units 10) (ltb 0 (10 * tens + units)) q.0 in
    record {
      digit = ltb-true units 10 r.0;
      low = ltb-true 0 (10 * tens + units) r.1;
      high = leb-true (10 * tens + units) 12 q.1;
      value = p.1;
    }

pub hour_of_digits : (m : HourMode) (mark hour : ℕ) → 2 ≤ mark → hour < 24 → hour_of m mark (hour_digits m mark hour) ≡ Some hour
hour_of_digits TwentyFour mark hour k h =
    let value : 10 * (hour / 10) + hour % 10 ≡ hour = omega arith in
    let ok = and_from (ltb (hour % 10) 10) (ltb hour 24) (lt-ltb (hour % 10) 10 (omega arith)) (lt-ltb hour 24 h) in
    rw (value, ok)
hour_of_digits Twelve mark hour k h =
    ⊎_elim
    (λ am.
    let first : face hour / 10 + 0 < mark = omega arith in
    let value : 0 + (10 * (face hour / 10 + 0) + face hour % 10) % 12 ≡ hour = omega arith in
    let read : half_day 0 (face hour / 10 + 0) (face hour % 10) ≡ Some (0 + (10 * (face hour / 10 + 0) + face hour % 10) % 12) = on_face 0 (face hour / 10 + 0) (face hour % 10) (omega arith) (omega arith) (omega arith) in
    rw (lt-ltb hour 12 am, lt-ltb (face hour / 10 + 0) mark first, read, value))
    (λ pm.
    let later : mark ≤ face hour / 10 + mark = omega arith in
    let tens : face hour / 10 + mark - mark ≡ face hour / 10 = omega arith in
    let value : 12 + (10 * (face hour / 10) + face hour % 10) % 12 ≡ hour = omega arith in
    let read : half_day 12 (face hour / 10) (face hour % 10) ≡ Some (12 + (10 * (face hour / 10) + face hour % 10) % 12) = on_face 12 (face hour / 10) (face hour % 10) (omega arith) (omega arith) (omega arith) in
    rw (le-ltb hour 12 pm, le-ltb (face hour / 10 + mark) mark later, tens, read, value))
    (cases_lt hour 12)

-- the face of an hour that was read from a face
face_back : (begin n hour : ℕ) → begin % 12 ≡ 0 → 0 < n → n ≤ 12 → begin + n % 12 ≡ hour → face hour ≡ n
face_back begin n hour b h k e = ⊎_elim (λ lt. let m : n % 12 ≡ n = omega arith in omega arith) (λ ge. let m : n ≡ 12 = omega arith in omega arith) (cases_lt n 12)

pub digits_of_hour : (m : HourMode) (mark hour : ℕ) (d : Digits) → 2 ≤ mark → hour_of m mark d ≡ Some hour → (hour < 24) × (hour_digits m mark hour ≡ d)
digits_of_hour TwentyFour mark hour d k e =
    let p = passes (ltb d.units 10 && ltb (10 * d.tens + d.units) 24) (10 * d.tens + d.units) hour e in
    let q = and_parts (ltb d.units 10) (ltb (10 * d.tens + d.units) 24) p.0 in
    let u = ltb-true d.units 10 q.0 in
    let n = ltb-true (10 * d.tens + d.units) 24 q.1 in
    (omega arith, same_digits (hour / 10) (hour % 10) d (omega arith) (omega arith))
digits_of_hour Twelve mark hour d k e =
    ⊎_elim
    (λ am.
    let f = faced 0 d.tens d.units hour (rw (lt-ltb d.tens mark am) at e) in
    let half : hour < 12 = omega arith in
    let back = face_back 0 (10 * d.tens + d.units) hour (omega arith) f.low f.high f.value in
    (omega arith, rw (lt-ltb hour 12 half) (same_digits (face hour / 10 + 0) (face hour % 10) d (omega arith) (omega arith))))
    (λ pm.
    let f = faced 12 (d.tens - mark) d.units hour (rw (le-ltb d.tens mark pm) at e) in
    let half : 12 ≤ hour = omega arith in
    let back = face_back 12 (10 * (d.tens - mark) + d.units) hour (omega arith) f.low f.high f.value in
    (omega arith, rw (le-ltb hour 12 half) (same_digits (face hour / 10 + mark) (face hour % 10) d (omega arith) (omega arith))))
    (cases_lt d.tens mark)

-- the digits of an hour are small
pub hour_small : (m : HourMode) (mark hour : ℕ) → 2 ≤ mark → hour < 24 → ((hour_digits m mark hour).tens ≤ mark + 1) × ((hour_digits m mark hour).units < 10)
hour_small TwentyFour mark hour k h = (omega arith, omega arith)
hour_small Twelve mark hour k h =
    ⊎_elim
    (λ am. (rw (lt-ltb hour 12 am) (omega arith), omega arith))
    (λ pm. (rw (le-ltb hour 12 pm) (omega arith), omega arith))
    (cases_lt hour 12)
