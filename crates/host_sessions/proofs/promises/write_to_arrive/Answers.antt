use Rattle.rx5c348a.specs.Part.{seen}
use Rattle.host_wires.specs.Record.{Wired, wired}
use Rattle.host_sessions.specs.Sessions.{single_write}
use Rattle.host_sessions.proofs.DrivenLaws.{write_driven}
use Rattle.host_sessions.proofs.SessionLaws.{writes}
use Rattle.host_sessions.proofs.promises.write_to_arrive.Goals as goal

pub returns : goal.returns
unfolding single_write
returns c =
    let before : Wired = wired c.args.pins.now (seen c.args.part.now) in
    let after : Wired = wired c.write_single.new.pins (seen c.write_single.new.part) in
    record {
      value = c.write_single.ensures;
      law = writes c.args.address c.args.byte before after c.write_single.result c.ranges.byte.fits c.args.part.now.registers.core.map.cells.seven c.args.part.now.registers.two_rows c.write_single.ensures;
      driven = write_driven c.args.address c.args.byte before after c.write_single.result c.write_single.ensures;
    }
