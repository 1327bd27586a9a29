use Rattle.std.proofs.Common.{refl, arith}
use Rattle.rx5c348a.specs.Part.{seen}
use Rattle.host_wires.specs.Record.{wired}
use Rattle.host_wires.specs.Shifting.{bytes_out}
use Rattle.host_wires.proofs.Clocks.{out_filled, out_full}
use Rattle.host_wires.proofs.Turns.{all_stand_there}
use Rattle.host_wires.proofs.record.PinRecord.shift_bytes_out.Goals as goal

pub loop-byte-init : goal.loop-byte-init
unfolding bytes_out
loop-byte-init c = (refl, refl)

pub loop-byte-preserved : goal.loop-byte-preserved
loop-byte-preserved c =
    out_filled c.loop-byte.byte-index (wired c.args.self.now (seen c.args.part.now)) _ _ c.args.buffer.now _ _ (omega arith) c.loop-byte.invariant.0 c.loop-byte.invariant.1 c.shift_out.ensures.value

pub returns : goal.returns
returns c =
    let all = out_full c.loop-byte.byte-index (wired c.args.self.now (seen c.args.part.now)) _ c.args.buffer.now _ (omega arith) c.loop-byte.invariant.0 c.loop-byte.invariant.1 in
    record {
      value = all;
      law = all_stand_there _ (wired c.args.self.now (seen c.args.part.now)) _ _ c.args.part.now.transfer.four_bits all;
    }
