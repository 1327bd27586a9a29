use Rattle.std.proofs.Common.{ap, arith}
use Rattle.rx5c348a.specs.Part.{seen}
use Rattle.host_wires.specs.Record.{Wired, wired}
use Rattle.host_wires.proofs.Turns.{in_turn_none, in_turn_more, in_turn_all, all_arrive}
use Rattle.host_wires.proofs.record.PinRecord.shift_bytes_in.Goals as goal

pub loop-byte-init : goal.loop-byte-init
loop-byte-init c = in_turn_none (wired c.args.self.now (seen c.args.part.now))

pub loop-byte-preserved : goal.loop-byte-preserved
loop-byte-preserved c =
    in_turn_more c.args.bytes.now c.loop-byte.byte-index _ (wired c.args.self.now (seen c.args.part.now)) _ (omega arith) c.loop-byte.invariant c.shift_in.ensures.value

pub returns : goal.returns
returns c =
    let all = in_turn_all c.args.bytes.now c.loop-byte.byte-index _ (wired c.args.self.now (seen c.args.part.now)) (omega arith) c.loop-byte.invariant in
    record {
      value = all;
      law = all_arrive c.args.bytes.now (wired c.args.self.now (seen c.args.part.now)) _ (λ i. (c.type_inv.bytes i).fits) c.args.part.now.transfer.four_bits (ap (λ (w : Wired). w.part) all);
    }
