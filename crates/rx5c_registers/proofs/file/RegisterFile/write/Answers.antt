use Rattle.std.proofs.Common.{sym, subst}
use Rattle.rx5c_registers.specs.File.{file_seen}
use Rattle.rx5c_registers.specs.Standing.{StandsIn}
use Rattle.rx5c_registers.proofs.Standing.{written_stands}
use Rattle.rx5c_registers.proofs.file.RegisterFile.write.Goals as goal

pub returns : goal.returns
returns c =
    record {
      value = c.write_register.ensures;
      stands =
          subst (StandsIn (file_seen c.args.self.now) c.args.address c.args.byte) (sym c.write_register.ensures)
          (written_stands (file_seen c.args.self.now) c.args.address c.args.byte c.args.self.now.core.map.cells.seven c.args.self.now.two_rows c.ranges.byte.fits);
    }
