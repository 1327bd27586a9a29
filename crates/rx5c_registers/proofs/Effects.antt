-- What each call of the register file does to its core: what the same call of the core does.
use Rattle.std.proofs.Common.{◌≡◌, ℕ, zero, suc, ◌+◌, Bool, true, false, cond, eqb, ltb, Ok, Err, refl, ap, ◌∙◌, arith, ◌<◌}
use Rattle.refusals.specs.declared.Refusal.TheVariants.{TooManyPulses, AlreadyHeld, NotHeld}
use Rattle.register_map.specs.Chart.{shown_by, advanced}
use Rattle.byte_map.specs.Cells.{byte_chart}
use Rattle.clock_core.specs.Core.{CoreState, Accepted, at_position, waiting, with_map, begin_second, cross_boundary, one_pulse, many_pulses, most_pulses, release_core, released as core_released, restart_second, set_trim, set_core_mode}
use Rattle.clock_core.proofs.Effects.{pulse_held, pulses_held}
use Rattle.rx5c_registers.specs.File.{FileState, with_core, alarm, alarm_written, cell_put, cell_written, control_written, flags_written, hour_mode_in, masked, registers, written}
use Rattle.rx5c_registers.proofs.Passing.{taken_within}
use Rattle.rx5c_registers.specs.Clock.{at_minute, minute_begun, after_advance, pulse_taken, pulses_taken, give_pulses, held, released}

-- Pulses are pulses of the core.
pulse_by : (f : FileState) (s t : CoreState) (within held minute : Bool) → (cond within (with_core f s) (cond held (with_core f t) (cond minute (minute_begun (with_core f t)) (with_core f t)))).core ≡ cond within s t
pulse_by f s t true held minute = refl
pulse_by f s t false true minute = refl
pulse_by f s t false false true = refl
pulse_by f s t false false false = refl

pub pulse_core : (f : FileState) → (pulse_taken f).core ≡ one_pulse byte_chart f.core
pulse_core f =
    pulse_by f (at_position f.core (f.core.position + 1)) (cross_boundary byte_chart f.core) (ltb (f.core.position + 1) f.core.second) f.core.held
    (at_minute (shown_by byte_chart (cross_boundary byte_chart f.core).map))

pub taken_core : (n : ℕ) (f : FileState) → (pulses_taken n f).core ≡ many_pulses byte_chart n f.core
unfolding pulses_taken many_pulses
taken_core zero f = refl
taken_core (suc n) f = taken_core n (pulse_taken f) ∙ ap (many_pulses byte_chart n) (pulse_core f)

given_by : (f : FileState) (n : ℕ) (refused : Bool) → (cond {A = Accepted × FileState} refused (Err TooManyPulses, f) (Ok tt, pulses_taken n f)).1.core.held ≡ f.core.held
given_by f n true = refl
given_by f n false = ap (λ (s : CoreState). s.held) (taken_core n f) ∙ pulses_held byte_chart n f.core

-- they hold nothing and release nothing
pub given_held : (f : FileState) (n : ℕ) → (give_pulses f n).1.core.held ≡ f.core.held
given_held f n = given_by f n (ltb most_pulses n)

-- Hold is the core's, and where it is held already nothing changes.
pub held_core : (f : FileState) → f.core.held ≡ false → (held f).core ≡ record f.core { held = true }
held_core f e =
    ap (λ (b : Bool). (cond {A = Accepted × CoreState} b (Err AlreadyHeld, f.core) (Ok tt, record f.core { held = true })).1) e

-- Release is the core's.
released_by : (f : FileState) (s : CoreState) (waits minute : Bool) → (cond waits (cond minute (minute_begun (with_core f s)) (with_core f s)) (with_core f s)).core ≡ s
released_by f s true true = refl
released_by f s true false = refl
released_by f s false minute = refl

pub released_core : (f : FileState) → (released f).core ≡ (release_core byte_chart f.core).1
released_core f = released_by f _ f.core.waits (at_minute (shown_by byte_chart (release_core byte_chart f.core).1.map))

pub released_core_held : (f : FileState) → f.core.held ≡ true → (released f).core ≡ core_released byte_chart f.core
released_core_held f e =
    released_core f
    ∙ ap (λ (b : Bool). (cond {A = Accepted × CoreState} b (Ok tt, core_released byte_chart f.core) (Err NotHeld, f.core)).1) e

-- A write: what a byte, its unused bits cleared, does to the core in each register. Only the calendar, the trim and the hour mode are the core's.
abbrev pub core_put_by : CoreState → ℕ → ℕ → (seconds calendar trim alarm control : Bool) → CoreState
core_put_by s address byte seconds calendar trim alarm control =
    cond calendar (cond seconds (restart_second byte_chart (cell_put s address byte)) (cell_put s address byte))
    (cond trim (set_trim s byte) (cond alarm s (cond control (set_core_mode s (hour_mode_in byte)) s)))

abbrev pub core_put : CoreState → ℕ → ℕ → CoreState
core_put s address byte = core_put_by s address byte (eqb address 0) (ltb address 7) (eqb address 7) (ltb address 14) (eqb address 14)

alarm_by : (f v w x y z : FileState) (a b c d e : Bool) → v.core ≡ f.core → w.core ≡ f.core → x.core ≡ f.core → y.core ≡ f.core → z.core ≡ f.core → (cond a v (cond b w (cond c x (cond d y (cond e z f))))).core ≡ f.core
alarm_by f v w x y z true b c d e i j k l m = i
alarm_by f v w x y z false true c d e i j k l m = j
alarm_by f v w x y z false false true d e i j k l m = k
alarm_by f v w x y z false false false true e i j k l m = l
alarm_by f v w x y z false false false false true i j k l m = m
alarm_by f v w x y z false false false false false i j k l m = refl

alarm_core : (f : FileState) (address byte : ℕ) → (alarm_written f address byte).core ≡ f.core
alarm_core f address byte =
    alarm_by f _ _ _ _ _ (eqb address 8) (eqb address 9) (eqb address 10) (eqb address 11) (eqb address 12) refl refl refl refl refl

module _ (f : FileState) (address byte : ℕ) where
  put_by : (a b c d e : Bool) → (cond a (cell_written f address byte) (cond b (with_core f (set_trim f.core byte)) (cond c (alarm_written f address byte) (cond d (control_written f byte) (cond e (flags_written f byte) f))))).core ≡ core_put_by f.core address byte (eqb address 0) a b c d
  put_by true b c d e = refl
  put_by false true c d e = refl
  put_by false false true d e = alarm_core f address byte
  put_by false false false true e = refl
  put_by false false false false true = refl
  put_by false false false false false = refl

pub written_core : (f : FileState) (address byte : ℕ) → (written f address byte).core ≡ core_put f.core address (masked address byte)
written_core f address byte =
    put_by f address (masked address byte) (ltb address 7) (eqb address 7) (ltb address 14) (eqb address 14) (eqb address 15)

put_held : (s : CoreState) (address byte : ℕ) (z a b c d : Bool) → (core_put_by s address byte z a b c d).held ≡ s.held
put_held s address byte true true b c d = refl
put_held s address byte false true b c d = refl
put_held s address byte z false true c d = refl
put_held s address byte z false false true d = refl
put_held s address byte z false false false true = refl
put_held s address byte z false false false false = refl

-- it holds nothing and releases nothing
pub written_held : (f : FileState) (address byte : ℕ) → (written f address byte).core.held ≡ f.core.held
written_held f address byte =
    ap (λ (s : CoreState). s.held) (written_core f address byte)
    ∙ put_held f.core address (masked address byte) (eqb address 0) (ltb address 7) (eqb address 7) (ltb address 14) (eqb address 14)

-- What the sixteen registers read then. (A write: `written_stands`.) A hold moves none.
pub held_registers : (f : FileState) → registers (held f) ≡ registers f
held_registers f = by f.core.held
  where
    by : (b : Bool) → registers (with_core f (cond {A = Accepted × CoreState} b (Err AlreadyHeld, f.core) (Ok tt, record f.core { held = true })).1) ≡ registers f
    by true = refl
    by false = refl

-- Neither does a release where no boundary waits.
pub released_registers : (f : FileState) → f.core.waits ≡ false → registers (released f) ≡ registers f
released_registers f e =
    ap (λ (w : Bool). registers (cond w (after_advance (with_core f (release_core byte_chart f.core).1)) (with_core f (release_core byte_chart f.core).1))) e
    ∙ by f.core.held
  where
    by : (b : Bool) → registers (with_core f (cond {A = Accepted × CoreState} b (Ok tt, core_released byte_chart f.core) (Err NotHeld, f.core)).1) ≡ registers f
    by true = ap (λ (w : Bool). registers (with_core f (record f.core { map = cond w (advanced byte_chart f.core.map) f.core.map }))) e
    by false = refl

-- Nor do pulses while it is held, nor those that end no second.
abbrev crossed_by : FileState → Bool → FileState
crossed_by f b = with_core f (begin_second byte_chart (cond b (waiting f.core true) (with_map f.core (advanced byte_chart f.core.map))))

pulse_registers : (f : FileState) → f.core.held ≡ true → registers (pulse_taken f) ≡ registers f
pulse_registers f e = by (ltb (f.core.position + 1) f.core.second) f.core.held e
  where
    by : (within b : Bool) → b ≡ true → registers (cond within (with_core f (at_position f.core (f.core.position + 1))) (cond b (crossed_by f b) (after_advance (crossed_by f b)))) ≡ registers f
    by true b h = refl
    by false true h = refl
    by false false h = let z : ◌≡◌ {A = ℕ} 0 1 = cc in absurd (omega arith)

pub taken_registers_held : (n : ℕ) (f : FileState) → f.core.held ≡ true → registers (pulses_taken n f) ≡ registers f
unfolding pulses_taken
taken_registers_held zero f e = refl
taken_registers_held (suc n) f e =
    taken_registers_held n (pulse_taken f) (ap (λ (s : CoreState). s.held) (pulse_core f) ∙ pulse_held byte_chart f.core ∙ e)
    ∙ pulse_registers f e

pub taken_registers_within : (n : ℕ) (f : FileState) → f.core.position + n < f.core.second → registers (pulses_taken n f) ≡ registers f
taken_registers_within n f h = ap registers (taken_within n f h)
