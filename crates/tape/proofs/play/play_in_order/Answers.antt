use Rattle.rx5c348a.specs.Part.{seen}
use Rattle.tape.specs.Tapes.{played}
use Rattle.tape.proofs.InOrder.{in_order}
use Rattle.tape.proofs.play.play_in_order.Goals as goal

pub returns-clause-in_order : goal.returns-clause-in_order
returns-clause-in_order c =
    in_order c.args.tape.now (seen c.args.part.now) (played c.play_bytes.result (seen c.play_bytes.new.part)) (λ i. (c.type_inv.tape i).fits) c.play_bytes.ensures.does
