use Rattle.std.proofs.Common.{sym, subst}
use Rattle.rx5c_registers.specs.File.{file_seen}
use Rattle.rx5c_registers.specs.Ringing.{AlarmsRingAtRelease}
use Rattle.rx5c_registers.proofs.Ringing.{alarms_ring_at_release}
use Rattle.rx5c_registers.proofs.file.RegisterFile.release.Goals as goal

pub returns : goal.returns
returns c =
    record {
      value = c.let_go.ensures;
      alarms = λ held.
          subst (AlarmsRingAtRelease (file_seen c.args.self.now)) (sym c.let_go.ensures) (alarms_ring_at_release (file_seen c.args.self.now) held);
    }
