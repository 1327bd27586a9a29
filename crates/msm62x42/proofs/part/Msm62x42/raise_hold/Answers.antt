use Rattle.std.proofs.Common.{sym, ap, subst}
use Rattle.clock_core.proofs.Effects.{IsPlain, hold_plain}
use Rattle.msm62x42.specs.Part.{seen}
use Rattle.msm62x42.proofs.part.Msm62x42.raise_hold.Goals as goal

-- no trim comes by it
pub invariant_of-self : goal.invariant_of-self
invariant_of-self c =
    let before = c.args.self.now in
    let plain =
    subst IsPlain (sym (ap (λ r. r.1) c.hold.ensures)) (hold_plain (seen before) (record { untrimmed = before.untrimmed; second = before.plain_second })) in
    record { untrimmed = plain.untrimmed; plain_second = plain.second }
