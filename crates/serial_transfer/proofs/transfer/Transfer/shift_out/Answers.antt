use Rattle.std.proofs.Common.{◌≡◌, Some, sym, ap, ◌∙◌, arith}
use Rattle.serial_transfer.specs.Levels.{taken}
use Rattle.serial_transfer.specs.Rules.{due_in}
use Rattle.serial_transfer.proofs.Clocks.{out_more, out_done}
use Rattle.serial_transfer.proofs.Wholes.{goes_out}
use Rattle.serial_transfer.proofs.transfer.Transfer.shift_out.Goals as goal

pub loop-preserved : goal.loop-preserved
loop-preserved c =
    out_more c.args.due_byte _ _ c.loop.gathered c.taken_in-gathered.result _ _ _ (omega arith) c.clock_out.ensures
    (c.taken_in-gathered.ensures ∙ ap (taken c.loop.gathered) c.from.ensures)
    ∙ c.loop.invariant

pub returns : goal.returns
returns c =
    let due : due_in c.args.self.now.phase ≡ Some c.in_ok-due.field-0 = sym c.due.ensures.value ∙ c.in_ok-due.was in
    let all = out_done c.args.due_byte _ c.loop.counter c.loop.gathered c.args.self.now.phase _ due c.loop-test.false c.loop.invariant in
    record { value = all; law = goes_out c.args.due_byte c.args.self.now.phase _ c.ranges.due_byte.fits all }
