use Rattle.std.proofs.Common.{rules, refl, arith}
use Rattle.serial_transfer.specs.Bursts.{bytes_in}
use Rattle.serial_transfer.proofs.Turns.{bytes_in_more, burst_in}
use Rattle.serial_transfer.proofs.transfer.Transfer.shift_bytes_in.Goals as goal

pub loop-i-init : goal.loop-i-init
unfolding bytes_in
loop-i-init c = (refl, refl)

pub loop-i-preserved : goal.loop-i-preserved
loop-i-preserved c =
    bytes_in_more c.args.bytes.now c.loop-i.i c.args.self.now.phase _ _ c.args.landings.now _ _ (omega arith) (omega arith) c.loop-i.invariant.0 c.loop-i.invariant.1
    c.shift_in.ensures.value

pub returns-clause-law : goal.returns-clause-law
returns-clause-law c =
    burst_in c.args.bytes.now c.min-count.result c.args.self.now.phase c.args.landings.now _ _ (λ i. (c.type_inv.bytes i).fits) (omega arith)
    c.args.self.now.four_bits (search rules) (search rules)
