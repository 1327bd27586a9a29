-- Held stretches: the map stands.
use Rattle.std.proofs.Common.{◌≡◌, ℕ, true, false, ap, ◌∙◌, subst, arith}
use Rattle.register_map.specs.declared.hour_mode.HourMode.{HourMode}
use Rattle.register_map.specs.Chart.{Chart}
use Rattle.clock_core.specs.Core.{CoreState}
use Rattle.clock_core.proofs.Effects.{pulses_held, pulses_map}
use Rattle.timekeeping.specs.Logs.{Sight, Took, Held, Released, Wrote, Gave, Nothing, is_release, is_write}
use Rattle.timekeeping.proofs.Keeping.{Acts}

-- a core that is held over the same map
abbrev pub Stays : CoreState → CoreState → Type 0
Stays s t = (t.held ≡ true) × (t.map ≡ s.map)

-- held, what neither releases nor writes leaves the map alone
pub stays : (c : Chart) (mode : HourMode) (x : Sight) (s t : CoreState) → Acts c mode x s t → s.held ≡ true → s.map.mode ≡ mode → is_release x ≡ false → is_write x ≡ false → Stays s t
stays c mode (Took n) s t acts e stands on quiet =
    (ap (λ (u : CoreState). u.held) acts ∙ pulses_held c n s ∙ e, ap (λ (u : CoreState). u.map) acts ∙ pulses_map c n s e)
stays c mode Held s t acts e stands on quiet =
    let free = acts.0 in
    let z : ◌≡◌ {A = ℕ} 0 1 = cc in
    absurd (omega arith)
stays c mode Released s t acts e stands on quiet = let z : ◌≡◌ {A = ℕ} 0 1 = cc in absurd (omega arith)
stays c mode Wrote s t acts e stands on quiet = let z : ◌≡◌ {A = ℕ} 0 1 = cc in absurd (omega arith)
stays c mode (Gave bytes) s t acts e stands on quiet = (ap (λ (u : CoreState). u.held) acts.0 ∙ e, ap (λ (u : CoreState). u.map) acts.0)
stays c mode Nothing s t acts e stands on quiet =
    (ap (λ (u : CoreState). u.held) (acts stands) ∙ e, ap (λ (u : CoreState). u.map) (acts stands))

-- once it is held
pub held_first : (c : Chart) (mode : HourMode) (x : Sight) (s t : CoreState) → Acts c mode x s t → x ≡ Held → Stays s t
held_first c mode x s t acts e =
    let at = subst (λ (y : Sight). Acts c mode y s t) e acts in
    (ap (λ (u : CoreState). u.held) at.1, ap (λ (u : CoreState). u.map) at.1)
