use Rattle.std.proofs.Common.{sym, arith}
use Rattle.rx5c_registers.specs.File.{file_seen}
use Rattle.rx5c_registers.proofs.Rows.{empty_register}
use Rattle.rx5c_registers.proofs.file.RegisterFile.upper_register.Goals as goal

pub returns-in_default : goal.returns-in_default
returns-in_default c = sym (empty_register (file_seen c.args.self.now) c.args.address (omega (arith, c.in_default, c.requires)))
