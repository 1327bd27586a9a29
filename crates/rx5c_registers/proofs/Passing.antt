-- Pulses one by one, and pulses up to the next boundary.
use Rattle.std.proofs.Common.{◌≡◌, ℕ, zero, suc, ◌+◌, ◌-◌, ◌<◌, ◌≤◌, Bool, true, false, cond, ltb, sym, refl, ap, ◌∙◌, arith, ltb-false, ltb-true, le-ltb, lt-ltb}
use Rattle.register_map.specs.Chart.{advanced}
use Rattle.byte_map.specs.Cells.{byte_chart}
use Rattle.clock_core.specs.Core.{CoreState, with_map, waiting, begin_second, at_position, pulses_left}
use Rattle.rx5c_registers.specs.File.{FileState, with_core}
use Rattle.rx5c_registers.specs.Clock.{after_advance, crossed, pulse_taken, pulses_taken, run_to_boundary}

abbrev at : FileState → ℕ → FileState
at f position = with_core f (at_position f.core position)

-- a pulse within the second, and one that reaches the length
pulse_within : (f : FileState) → f.core.position + 1 < f.core.second → pulse_taken f ≡ at f (f.core.position + 1)
pulse_within f h = ap (λ (b : Bool). cond b (at f (f.core.position + 1)) (crossed f)) (lt-ltb _ _ h)

pulse_crosses : (f : FileState) → f.core.second ≤ f.core.position + 1 → pulse_taken f ≡ crossed f
pulse_crosses f h = ap (λ (b : Bool). cond b (at f (f.core.position + 1)) (crossed f)) (le-ltb _ _ h)

-- the position reached does not matter to what a boundary does
abbrev core_crossed : CoreState → Bool → CoreState
core_crossed s held = begin_second byte_chart (cond held (waiting s true) (with_map s (advanced byte_chart s.map)))

cross_from : (f : FileState) (p : ℕ) (held : Bool) → cond held (with_core f (core_crossed (at_position f.core p) held)) (after_advance (with_core f (core_crossed (at_position f.core p) held))) ≡ cond held (with_core f (core_crossed f.core held)) (after_advance (with_core f (core_crossed f.core held)))
cross_from f p true = refl
cross_from f p false = refl

pub taken_within : (k : ℕ) (f : FileState) → f.core.position + k < f.core.second → pulses_taken k f ≡ at f (f.core.position + k)
unfolding pulses_taken
taken_within zero f h = ap (at f) (omega arith)
taken_within (suc k) f h =
    ap (pulses_taken k) (pulse_within f (omega arith)) ∙ taken_within k (at f (f.core.position + 1)) (omega arith) ∙ ap (at f) (omega arith)

taken_to_boundary : (k : ℕ) (f : FileState) → f.core.position + suc k ≡ f.core.second → pulses_taken (suc k) f ≡ crossed f
unfolding pulses_taken
taken_to_boundary zero f h = pulse_crosses f (omega arith)
taken_to_boundary (suc k) f h =
    ap (λ g. pulses_taken (suc k) g) (pulse_within f (omega arith)) ∙ taken_to_boundary k (at f (f.core.position + 1)) (omega arith) ∙ cross_from f (f.core.position + 1) f.core.held

-- pulses given in two parts
pub taken_in_parts : (a b : ℕ) (f : FileState) → pulses_taken (a + b) f ≡ pulses_taken b (pulses_taken a f)
unfolding pulses_taken
taken_in_parts zero b f =
    let e : zero + b ≡ b = omega arith in
    ap (λ n. pulses_taken n f) e
taken_in_parts (suc a) b f =
    let e : suc a + b ≡ suc (a + b) = omega arith in
    ap (λ n. pulses_taken n f) e ∙ taken_in_parts a b (pulse_taken f)

-- what `run-to-boundary` answers, by whether the boundary is reached
abbrev run_by : FileState → ℕ → Bool → ℕ × FileState
run_by f n b = cond b (0, at f (f.core.position + n)) (n - pulses_left f.core, crossed f)

-- what is left after the next boundary, from there, is the whole from here
run_whole : (f : FileState) (n : ℕ) (b : Bool) → ltb n (pulses_left f.core) ≡ b → f.core.position < f.core.second → pulses_taken (run_by f n b).0 (run_by f n b).1 ≡ pulses_taken n f
unfolding pulses_taken
run_whole f n true e h =
    let few = ltb-true _ _ e in
    sym (taken_within n f (omega arith))
run_whole f n false e h =
    let reached = ltb-false _ _ e in
    let k : ℕ = f.core.second - f.core.position - 1 in
    let left : ℕ = n - pulses_left f.core in
    let parts : n ≡ suc k + left = omega arith in
    let whole : f.core.position + suc k ≡ f.core.second = omega arith in
    sym (ap (λ m. pulses_taken m f) parts ∙ taken_in_parts (suc k) left f ∙ ap (pulses_taken left) (taken_to_boundary k f whole))

run_falls : (f : FileState) (n : ℕ) (b : Bool) → ltb n (pulses_left f.core) ≡ b → f.core.position < f.core.second → 0 < n → (run_by f n b).0 < n
run_falls f n true e h p = p
run_falls f n false e h p = let reached = ltb-false _ _ e in omega arith

pub taken_run : (f g : FileState) (n left : ℕ) → (left, g) ≡ run_to_boundary f n → f.core.position < f.core.second → 0 < n → (left < n) × (pulses_taken left g ≡ pulses_taken n f)
taken_run f g n left e h p = (
  let fewer : left ≡ (run_to_boundary f n).0 = ap (λ x. x.0) e in
      let falls = run_falls f n (ltb n (pulses_left f.core)) refl h p in
      omega arith,
  ap (λ x. pulses_taken x.0 x.1) e ∙ run_whole f n (ltb n (pulses_left f.core)) refl h,
)

-- all given: none is left
pub taken_all : (f g : FileState) (n left : ℕ) → left ≤ 0 → pulses_taken left g ≡ pulses_taken n f → g ≡ pulses_taken n f
unfolding pulses_taken
taken_all f g n left none whole =
    let gone : left ≡ 0 = omega arith in
    ap (λ m. pulses_taken m g) (sym gone) ∙ whole
