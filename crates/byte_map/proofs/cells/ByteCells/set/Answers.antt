use Rattle.byte_map.proofs.Keeping.{set_kept}
use Rattle.byte_map.proofs.cells.ByteCells.set.Goals as goal

pub invariant_of-self-clause-no_unused_bit : goal.invariant_of-self-clause-no_unused_bit
invariant_of-self-clause-no_unused_bit c =
    set_kept c.args.self.now.bytes c.args.at c.args.byte c.args.self.now.no_unused_bit c.requires.used
