use Rattle.rx5c348a.specs.Part.{seen}
use Rattle.tape.proofs.Printing.{line_printed, line_short}
use Rattle.tape.proofs.play.print.Goals as goal

pub returns-clause-does : goal.returns-clause-does
returns-clause-does c = line_printed c.args.number (seen c.args.part.now) c.registers.result c.args.line.now _ _ c.registers.ensures c.told-line c.record_line.ensures

pub returns-clause-short : goal.returns-clause-short
returns-clause-short c =
    line_short c.args.number (seen c.args.part.now) c.registers.result c.args.line.now _ _ c.registers.ensures c.told-line c.record_line.ensures c.ranges.number.fits c.args.part.now.registers.core.map.cells.seven
