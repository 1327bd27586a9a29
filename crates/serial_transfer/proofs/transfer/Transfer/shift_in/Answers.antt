use Rattle.std.proofs.Common.{◌∙◌, arith}
use Rattle.serial_transfer.proofs.Clocks.{in_more, in_done}
use Rattle.serial_transfer.proofs.Wholes.{comes_in}
use Rattle.serial_transfer.proofs.transfer.Transfer.shift_in.Goals as goal

pub loop-place-preserved : goal.loop-place-preserved
loop-place-preserved c = in_more c.args.byte c.loop-place.place _ _ _ _ _ _ (omega arith) c.bit_of.ensures c.clock_in.ensures c.or-landing.ensures ∙ c.loop-place.invariant

pub returns : goal.returns
returns c =
    let all = in_done c.args.byte c.loop-place.place _ (omega arith) ∙ c.loop-place.invariant in
    record { value = all; law = comes_in c.args.byte c.args.self.now.phase _ c.ranges.byte.fits all }
