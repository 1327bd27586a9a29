-- The seconds value of the second after a moment.
use Rattle.std.proofs.Common.{◌≡◌, ℕ, ◌+◌, ◌%◌, Bool, true, Some, None, Option, sym, ap, ◌∙◌, arith}
use native.Mathlib.Nat.{mod-mod_of_dvd, dvd_of_mod-eq-zero}
use Rattle.std.specs.Option.{option_map}
use Rattle.register_map.specs.declared.shown.Shown.{Shown}
use Rattle.register_map.specs.Chart.{Chart, Lawful, second_of, second_after}
use Rattle.clock_core.specs.Core.{counted_value}

-- A cycle is whole minutes, so going round it keeps the seconds value.
pub value_after : (c : Chart) → Lawful c → (p : Shown) → second_of (second_after c p) ≡ (second_of p + 1) % 60
value_after c law p =
    let whole : c.cycle % 60 ≡ 0 = omega (arith, law.whole_days) in
    mod-mod_of_dvd 60 (p.moment + 1) (dvd_of_mod-eq-zero 60 whole) ∙ omega arith

-- the value counted while a boundary waits
pub counted_waiting : (c : Chart) → Lawful c → (o : Option Shown) (w : Bool) (v r : ℕ) → w ≡ true → Some v ≡ option_map second_of o → r ≡ (v + 1) % 60 → Some r ≡ option_map (counted_value c w) o
counted_waiting c law None w v r t e q = cc
counted_waiting c law (Some p) w v r t e q =
    let same : v ≡ second_of p = cc in
    let after : r ≡ counted_value c true p = q ∙ ap (λ (n : ℕ). (n + 1) % 60) same ∙ sym (value_after c law p) in
    ap Some (after ∙ ap (λ (b : Bool). counted_value c b p) (sym t))
