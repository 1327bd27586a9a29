use Rattle.std.proofs.Common.{rules}
use Rattle.clock_core.proofs.Rows.{made_same}
use Rattle.rx5c_registers.specs.File.{file_seen, registers}
use Rattle.rx5c_registers.proofs.Rows.{sixteen_registers}
use Rattle.rx5c_registers.proofs.file.RegisterFile.registers.Goals as goal

pub returns : goal.returns
returns c =
    made_same _ (registers (file_seen c.args.self.now)) _ _ (λ i y q k. search rules) 16 (sixteen_registers (file_seen c.args.self.now) c.args.self.now.core.map.cells.seven) c.from_fn.ensures.items
