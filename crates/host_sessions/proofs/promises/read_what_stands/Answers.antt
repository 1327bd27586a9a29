use Rattle.rx5c348a.specs.Part.{seen}
use Rattle.host_wires.specs.Record.{Wired, wired}
use Rattle.host_sessions.specs.Sessions.{single_read}
use Rattle.host_sessions.proofs.DrivenLaws.{read_driven}
use Rattle.host_sessions.proofs.SessionLaws.{reads}
use Rattle.host_sessions.proofs.promises.read_what_stands.Goals as goal

pub returns : goal.returns
unfolding single_read
returns c =
    let before : Wired = wired c.args.pins.now (seen c.args.part.now) in
    let after : Wired = wired c.read_single.new.pins (seen c.read_single.new.part) in
    record {
      value = c.read_single.ensures;
      law = reads c.args.address before after c.read_single.result c.read_single.ensures;
      driven = read_driven c.args.address before after c.read_single.result c.read_single.ensures;
    }
