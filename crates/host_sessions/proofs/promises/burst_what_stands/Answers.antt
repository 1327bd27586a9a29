use Rattle.rx5c348a.specs.Part.{seen}
use Rattle.host_wires.specs.Record.{Wired, wired}
use Rattle.host_sessions.specs.Sessions.{burst_read}
use Rattle.host_sessions.proofs.DrivenLaws.{burst_read_driven}
use Rattle.host_sessions.proofs.SessionLaws.{burst_reads}
use Rattle.host_sessions.proofs.promises.burst_what_stands.Goals as goal

pub returns : goal.returns
unfolding burst_read
returns c =
    let before : Wired = wired c.args.pins.now (seen c.args.part.now) in
    let after : Wired = wired c.read_burst.new.pins (seen c.read_burst.new.part) in
    record {
      value = c.read_burst.ensures;
      law = burst_reads c.args.address c.args.buffer.now before after c.read_burst.result c.read_burst.new.buffer c.read_burst.ensures;
      driven = burst_read_driven c.args.address c.args.buffer.now before after c.read_burst.result c.read_burst.new.buffer c.read_burst.ensures;
    }
