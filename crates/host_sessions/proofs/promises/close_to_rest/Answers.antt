use Rattle.rx5c348a.specs.Part.{seen}
use Rattle.host_wires.specs.Record.{Wired, wired}
use Rattle.host_sessions.specs.Sessions.{closed}
use Rattle.host_sessions.proofs.DrivenLaws.{close_driven}
use Rattle.host_sessions.proofs.SessionLaws.{closes}
use Rattle.host_sessions.proofs.promises.close_to_rest.Goals as goal

pub returns : goal.returns
unfolding closed
returns c =
    let before : Wired = wired c.args.pins.now (seen c.args.part.now) in
    let after : Wired = wired c.drive_closing.new.pins (seen c.drive_closing.new.part) in
    record {
      value = c.drive_closing.ensures;
      law = closes before after c.drive_closing.ensures;
      driven = close_driven before after c.drive_closing.ensures;
    }
