use Rattle.std.proofs.Common.{refl, arith}
use Rattle.serial_transfer.specs.Bursts.{registers_out}
use Rattle.serial_transfer.proofs.Turns.{registers_out_more, registers_out_all, burst_out}
use Rattle.serial_transfer.proofs.transfer.Transfer.shift_bytes_out.Goals as goal

pub loop-byte-init : goal.loop-byte-init
unfolding registers_out
loop-byte-init c = (refl, refl)

pub loop-byte-preserved : goal.loop-byte-preserved
loop-byte-preserved c =
    registers_out_more c.args.registers.now c.loop-byte.byte-index c.args.self.now.phase _ _ c.args.given.now _ _ (omega arith) c.loop-byte.invariant.0 c.loop-byte.invariant.1
    c.shift_register_out.ensures

pub returns : goal.returns
returns c =
    let all =
    registers_out_all c.args.registers.now c.loop-byte.byte-index c.args.self.now.phase _ c.args.given.now _ (omega arith) c.loop-byte.invariant.0 c.loop-byte.invariant.1 in
    record {
      value = all;
      law = burst_out c.args.registers.now _ c.args.self.now.phase _ _ c.fits-registers c.args.self.now.four_bits all;
    }
