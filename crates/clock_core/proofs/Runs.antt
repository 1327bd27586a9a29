-- Pulses one by one, and pulses up to the next boundary.
use Rattle.std.proofs.Common.{◌≡◌, ℕ, zero, suc, ◌+◌, ◌-◌, ◌<◌, ◌≤◌, Bool, true, false, cond, ltb, Ok, Err, sym, refl, ap, ◌∙◌, arith, ltb-false, ltb-true, le-ltb, lt-ltb}
use Rattle.register_map.specs.Chart.{Chart, advanced}
use Rattle.refusals.specs.declared.Refusal.TheVariants.{TooManyPulses}
use Rattle.clock_core.specs.Core.{CoreState, Accepted, with_map, at_position, waiting, begin_second, cross_boundary, one_pulse, many_pulses, run_to_boundary, give_pulses}

-- a pulse within the second
pub pulse_within : (c : Chart) (s : CoreState) → s.position + 1 < s.second → one_pulse c s ≡ at_position s (s.position + 1)
pulse_within c s h = ap (λ (b : Bool). cond b (at_position s (s.position + 1)) (cross_boundary c s)) (lt-ltb _ _ h)

-- a pulse that reaches the length
pub pulse_crosses : (c : Chart) (s : CoreState) → s.second ≤ s.position + 1 → one_pulse c s ≡ cross_boundary c s
pulse_crosses c s h = ap (λ (b : Bool). cond b (at_position s (s.position + 1)) (cross_boundary c s)) (le-ltb _ _ h)

-- the position reached does not matter to what a boundary does
cross_from : (c : Chart) (s : CoreState) (p : ℕ) (held : Bool) → begin_second c (cond held (waiting (at_position s p) true) (with_map (at_position s p) (advanced c s.map))) ≡ begin_second c (cond held (waiting s true) (with_map s (advanced c s.map)))
cross_from c s p true = refl
cross_from c s p false = refl

pub pulses_within : (c : Chart) (k : ℕ) (s : CoreState) → s.position + k < s.second → many_pulses c k s ≡ at_position s (s.position + k)
unfolding many_pulses
pulses_within c zero s h = ap (at_position s) (omega arith)
pulses_within c (suc k) s h =
    ap (many_pulses c k) (pulse_within c s (omega arith)) ∙ pulses_within c k (at_position s (s.position + 1)) (omega arith) ∙ ap (at_position s) (omega arith)

pub pulses_to_boundary : (c : Chart) (k : ℕ) (s : CoreState) → s.position + suc k ≡ s.second → many_pulses c (suc k) s ≡ cross_boundary c s
unfolding many_pulses
pulses_to_boundary c zero s h = pulse_crosses c s (omega arith)
pulses_to_boundary c (suc k) s h =
    ap (λ t. many_pulses c (suc k) t) (pulse_within c s (omega arith)) ∙ pulses_to_boundary c k (at_position s (s.position + 1)) (omega arith) ∙ cross_from c s (s.position + 1) s.held

-- pulses given in two parts
pub pulses_in_parts : (c : Chart) (a b : ℕ) (s : CoreState) → many_pulses c (a + b) s ≡ many_pulses c b (many_pulses c a s)
unfolding many_pulses
pulses_in_parts c zero b s =
    let e : zero + b ≡ b = omega arith in
    ap (λ n. many_pulses c n s) e
pulses_in_parts c (suc a) b s =
    let e : suc a + b ≡ suc (a + b) = omega arith in
    ap (λ n. many_pulses c n s) e ∙ pulses_in_parts c a b (one_pulse c s)

-- what `run-to-boundary` answers, by whether the boundary is reached
abbrev run_by : Chart → CoreState → ℕ → Bool → ℕ × CoreState
run_by c s n b = cond b (0, at_position s (s.position + n)) (s.position + n - s.second, cross_boundary c s)

-- what is left after the next boundary, from there, is the whole from here
run_whole : (c : Chart) (s : CoreState) (n : ℕ) (b : Bool) → ltb (s.position + n) s.second ≡ b → s.position < s.second → many_pulses c (run_by c s n b).0 (run_by c s n b).1 ≡ many_pulses c n s
unfolding many_pulses
run_whole c s n true e h = sym (pulses_within c n s (ltb-true _ _ e))
run_whole c s n false e h =
    let reached = ltb-false _ _ e in
    let k : ℕ = s.second - s.position - 1 in
    let left : ℕ = s.position + n - s.second in
    let parts : n ≡ suc k + left = omega arith in
    let whole : s.position + suc k ≡ s.second = omega arith in
    sym (ap (λ m. many_pulses c m s) parts ∙ pulses_in_parts c (suc k) left s ∙ ap (many_pulses c left) (pulses_to_boundary c k s whole))

run_falls : (s : CoreState) (c : Chart) (n : ℕ) (b : Bool) → ltb (s.position + n) s.second ≡ b → s.position < s.second → 0 < n → (run_by c s n b).0 < n
run_falls s c n true e h p = p
run_falls s c n false e h p = let reached = ltb-false _ _ e in omega arith

pub pulses_run : (c : Chart) (s t : CoreState) (n left : ℕ) → (left, t) ≡ run_to_boundary c s n → s.position < s.second → 0 < n → (left < n) × (many_pulses c left t ≡ many_pulses c n s)
pulses_run c s t n left e h p = (
  let fewer : left ≡ (run_to_boundary c s n).0 = ap (λ x. x.0) e in
      let falls = run_falls s c n (ltb (s.position + n) s.second) refl h p in
      omega arith,
  ap (λ x. many_pulses c x.0 x.1) e ∙ run_whole c s n (ltb (s.position + n) s.second) refl h,
)

-- all given: none is left
pub pulses_given : (c : Chart) (s t : CoreState) (n left : ℕ) → left ≤ 0 → n ≤ 1048576 → many_pulses c left t ≡ many_pulses c n s → ◌≡◌ {A = Accepted × CoreState} (Ok tt, t) (give_pulses c s n)
unfolding many_pulses
pulses_given c s t n left none few whole =
    let gone : left ≡ 0 = omega arith in
    let reached : t ≡ many_pulses c n s = ap (λ m. many_pulses c m t) (sym gone) ∙ whole in
    ap (λ u. (Ok tt, u)) reached ∙ sym (ap (λ (b : Bool). cond {A = Accepted × CoreState} b (Err TooManyPulses, s) (Ok tt, many_pulses c n s)) (le-ltb _ _ few))
