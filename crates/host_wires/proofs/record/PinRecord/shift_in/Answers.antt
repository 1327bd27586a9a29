use Rattle.std.proofs.Common.{ap, ◌∙◌, eqb, arith}
use Rattle.rx5c348a.specs.Part.{seen}
use Rattle.host_wires.specs.Record.{Wired, wired}
use Rattle.host_wires.proofs.Clocks.{in_more, in_done}
use Rattle.host_wires.proofs.Wholes.{arrives}
use Rattle.host_wires.proofs.record.PinRecord.shift_in.Goals as goal

pub loop-place-preserved : goal.loop-place-preserved
loop-place-preserved c =
    in_more c.args.byte c.loop-place.place _ _ _ (omega arith) (ap (λ n. eqb n 1) c.bit_of.ensures) c.clock_in.ensures ∙ c.loop-place.invariant

pub returns : goal.returns
returns c =
    let all = in_done c.args.byte c.loop-place.place _ (omega arith) ∙ c.loop-place.invariant in
    record {
      value = all;
      law = arrives c.args.byte (wired c.args.self.now (seen c.args.part.now)) _ c.ranges.byte.fits c.args.part.now.registers.core.map.cells.seven c.args.part.now.registers.two_rows (ap (λ (w : Wired). w.part) all);
    }
