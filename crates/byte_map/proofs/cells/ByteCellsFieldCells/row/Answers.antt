use Rattle.byte_map.proofs.Keeping.{row_kept}
use Rattle.byte_map.proofs.cells.ByteCellsFieldCells.row.Goals as goal

pub invariant_of-result-clause-no_unused_bit : goal.invariant_of-result-clause-no_unused_bit
invariant_of-result-clause-no_unused_bit c =
    row_kept c.written.result c.args.mode c.args.reading c.written.ensures c.requires
