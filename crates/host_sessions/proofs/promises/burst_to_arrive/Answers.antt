use Rattle.rx5c348a.specs.Part.{seen}
use Rattle.host_wires.specs.Record.{Wired, wired}
use Rattle.host_sessions.specs.Sessions.{burst_write}
use Rattle.host_sessions.proofs.DrivenLaws.{burst_write_driven}
use Rattle.host_sessions.proofs.SessionLaws.{burst_writes}
use Rattle.host_sessions.proofs.promises.burst_to_arrive.Goals as goal

pub returns : goal.returns
unfolding burst_write
returns c =
    let before : Wired = wired c.args.pins.now (seen c.args.part.now) in
    let after : Wired = wired c.write_burst.new.pins (seen c.write_burst.new.part) in
    record {
      value = c.write_burst.ensures;
      law = burst_writes c.args.address c.args.bytes.now before after c.write_burst.result (λ i. (c.type_inv.bytes i).fits) c.write_burst.ensures;
      driven = burst_write_driven c.args.address c.args.bytes.now before after c.write_burst.result c.write_burst.ensures;
    }
