use Rattle.digit_map.proofs.Keeping.{set_kept}
use Rattle.digit_map.proofs.cells.DigitCells.set.Goals as goal

pub invariant_of-self-clause-no_unused_bit : goal.invariant_of-self-clause-no_unused_bit
invariant_of-self-clause-no_unused_bit c =
    set_kept c.args.self.now.digits c.args.at c.args.digit c.args.self.now.no_unused_bit c.requires.used
