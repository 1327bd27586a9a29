use Rattle.rx5c348a.specs.Part.{seen}
use Rattle.host_wires.specs.Record.{Wired, wired}
use Rattle.host_sessions.specs.Sessions.{opened}
use Rattle.host_sessions.proofs.DrivenLaws.{open_driven}
use Rattle.host_sessions.proofs.SessionLaws.{opens}
use Rattle.host_sessions.proofs.promises.open_to_a_header.Goals as goal

pub returns : goal.returns
unfolding opened
returns c =
    let before : Wired = wired c.args.pins.now (seen c.args.part.now) in
    let after : Wired = wired c.drive_opening.new.pins (seen c.drive_opening.new.part) in
    record {
      value = c.drive_opening.ensures;
      law = opens before after c.drive_opening.ensures;
      driven = open_driven before after c.drive_opening.ensures;
    }
