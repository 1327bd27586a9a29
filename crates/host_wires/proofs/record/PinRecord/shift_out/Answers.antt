use Rattle.std.proofs.Common.{ap, ◌∙◌, arith}
use Rattle.serial_transfer.specs.Levels.{taken}
use Rattle.rx5c348a.specs.Part.{seen}
use Rattle.host_wires.specs.Record.{wired}
use Rattle.host_wires.proofs.Clocks.{out_more, out_done}
use Rattle.host_wires.proofs.Wholes.{stands_there}
use Rattle.host_wires.proofs.record.PinRecord.shift_out.Goals as goal

pub loop-preserved : goal.loop-preserved
loop-preserved c =
    out_more _ _ c.loop.gathered c.taken_in-gathered.result _ _ _ (omega arith) c.clock_out.ensures
    (c.taken_in-gathered.ensures ∙ ap (taken c.loop.gathered) c.from.ensures)
    ∙ c.loop.invariant

pub returns : goal.returns
returns c =
    let all = out_done c.loop.counter c.loop.gathered _ (wired c.args.self.now (seen c.args.part.now)) c.loop-test.false c.loop.invariant in
    record { value = all; law = stands_there (wired c.args.self.now (seen c.args.part.now)) _ (wired c.loop.self (seen c.loop.part)) all }
