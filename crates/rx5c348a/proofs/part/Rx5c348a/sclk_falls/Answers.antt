use Rattle.std.proofs.Common.{ap, ◌∙◌}
use Rattle.serial_transfer.specs.Phase.{under_way}
use Rattle.serial_transfer.proofs.UnderWay.{fallen_under_way}
use Rattle.rx5c348a.proofs.part.Rx5c348a.sclk_falls.Goals as goal

-- where a byte has landed, the transfer goes on
pub invariant_of-self-clause-under_way_while_selected : goal.invariant_of-self-clause-under_way_while_selected
invariant_of-self-clause-under_way_while_selected c =
    ap (λ r. under_way r.1) c.fall.ensures.value ∙ fallen_under_way _ _ ∙ c.args.self.now.under_way_while_selected
