-- What pulses leave as it was: hold and trim, the map of a held core, and the length of its seconds where there is no trim.
use Rattle.std.proofs.Common.{◌≡◌, ℕ, zero, suc, ◌+◌, ◌%◌, Bool, true, false, cond, eqb, ltb, Some, None, Ok, Err, Option, refl, ap, ◌∙◌, arith}
use Rattle.refusals.specs.declared.Refusal.TheVariants.{TooManyPulses, AlreadyHeld, NotHeld}
use Rattle.std.specs.Option.{option_map}
use Rattle.register_map.specs.Chart.{Chart, shown_by, advanced}
use Rattle.clock_core.specs.Seconds.{second_pulses}
use Rattle.clock_core.specs.Core.{CoreState, Accepted, with_map, at_position, waiting, begin_second, one_pulse, many_pulses, give_pulses, most_pulses, counted_value, hold_core, released, release_core}

-- without a trim a second is plain, whatever it begins at
plain_length : (value : Option ℕ) → second_pulses 0 value ≡ 32768
plain_length None = refl
plain_length (Some v) = by (eqb (v % 20) 0)
  where
    by : (b : Bool) → ◌≡◌ {A = ℕ} (cond b 32768 32768) 32768
    by true = refl
    by false = refl

begun_plain : (c : Chart) (s : CoreState) → s.trim ≡ 0 → (begin_second c s).second ≡ 32768
begun_plain c s e =
    let value : Option ℕ = option_map (counted_value c s.waits) (shown_by c s.map) in
    ap (λ (t : ℕ). second_pulses t value) e ∙ plain_length value

-- a core without a trim, in a second of 32,768 pulses
pub record IsPlain (s : CoreState) : Type 0 where
  pub untrimmed : s.trim ≡ 0
  pub second : s.second ≡ 32768

module _ (c : Chart) (s : CoreState) where
  -- one pulse, by whether it ends within the second and whether the core is held
  abbrev pulse_by : Bool → Bool → CoreState
  pulse_by within held =
      cond within (at_position s (s.position + 1)) (begin_second c (cond held (waiting s true) (with_map s (advanced c s.map))))

  held_by : (within held : Bool) → (pulse_by within held).held ≡ s.held
  held_by true held = refl
  held_by false true = refl
  held_by false false = refl

  map_by : (within held : Bool) → held ≡ true → (pulse_by within held).map ≡ s.map
  map_by true held e = refl
  map_by false true e = refl
  map_by false false e = let z : ◌≡◌ {A = ℕ} 0 1 = cc in absurd (omega arith)

  plain_by : (within held : Bool) → IsPlain s → IsPlain (pulse_by within held)
  plain_by true held p = record { untrimmed = p.untrimmed; second = p.second }
  plain_by false true p = record { untrimmed = p.untrimmed; second = begun_plain c (waiting s true) p.untrimmed }
  plain_by false false p =
      record { untrimmed = p.untrimmed; second = begun_plain c (with_map s (advanced c s.map)) p.untrimmed }

  -- a pulse holds nothing and releases nothing
  pub pulse_held : (one_pulse c s).held ≡ s.held
  pulse_held = held_by (ltb (s.position + 1) s.second) s.held

  -- it moves no held map
  pub pulse_map : s.held ≡ true → (one_pulse c s).map ≡ s.map
  pulse_map e = map_by (ltb (s.position + 1) s.second) s.held e

  pulse_plain : IsPlain s → IsPlain (one_pulse c s)
  pulse_plain p = plain_by (ltb (s.position + 1) s.second) s.held p

pub pulses_held : (c : Chart) (n : ℕ) (s : CoreState) → (many_pulses c n s).held ≡ s.held
unfolding many_pulses
pulses_held c zero s = refl
pulses_held c (suc n) s = pulses_held c n (one_pulse c s) ∙ pulse_held c s

pub pulses_map : (c : Chart) (n : ℕ) (s : CoreState) → s.held ≡ true → (many_pulses c n s).map ≡ s.map
unfolding many_pulses
pulses_map c zero s e = refl
pulses_map c (suc n) s e = pulses_map c n (one_pulse c s) (pulse_held c s ∙ e) ∙ pulse_map c s e

pulses_plain : (c : Chart) (n : ℕ) (s : CoreState) → IsPlain s → IsPlain (many_pulses c n s)
unfolding many_pulses
pulses_plain c zero s p = p
pulses_plain c (suc n) s p = pulses_plain c n (one_pulse c s) (pulse_plain c s p)

-- a core stays plain, whether the pulses are taken or refused
pub given_plain : (c : Chart) (n : ℕ) (s : CoreState) → IsPlain s → IsPlain (give_pulses c s n).1
given_plain c n s p = by (ltb most_pulses n)
  where
    by : (refused : Bool) → IsPlain (cond {A = Accepted × CoreState} refused (Err TooManyPulses, s) (Ok tt, many_pulses c n s)).1
    by true = p
    by false = pulses_plain c n s p

-- so it does held and released
pub hold_plain : (s : CoreState) → IsPlain s → IsPlain (hold_core s).1
hold_plain s p = by s.held
  where
    by : (held : Bool) → IsPlain (cond {A = Accepted × CoreState} held (Err AlreadyHeld, s) (Ok tt, record { map = s.map; trim = s.trim; position = s.position; second = s.second; held = true; waits = s.waits })).1
    by true = p
    by false = record { untrimmed = p.untrimmed; second = p.second }

pub release_plain : (c : Chart) (s : CoreState) → IsPlain s → IsPlain (release_core c s).1
release_plain c s p = by s.held
  where
    by : (held : Bool) → IsPlain (cond {A = Accepted × CoreState} held (Ok tt, released c s) (Err NotHeld, s)).1
    by true = record { untrimmed = p.untrimmed; second = p.second }
    by false = p
