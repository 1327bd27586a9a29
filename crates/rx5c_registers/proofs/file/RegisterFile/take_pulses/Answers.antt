use Rattle.std.proofs.Common.{sym, ◌∙◌, subst}
use Rattle.rx5c_registers.specs.File.{file_seen}
use Rattle.rx5c_registers.specs.Ringing.{AlarmsRing}
use Rattle.rx5c_registers.proofs.Passing.{taken_run, taken_all}
use Rattle.rx5c_registers.proofs.Ringing.{alarms_ring}
use Rattle.rx5c_registers.proofs.file.RegisterFile.take_pulses.Goals as goal

pub loop-left-preserved : goal.loop-left-preserved
loop-left-preserved c =
    let run = taken_run _ _ _ _ c.run_to_boundary-left.ensures c.loop-left.self.core.within_second c.loop-left-test.true in
    run.1 ∙ c.loop-left.invariant

pub returns : goal.returns
returns c =
    let all = taken_all _ _ _ _ c.loop-left-test.false c.loop-left.invariant in
    record {
      value = all;
      alarms = subst (AlarmsRing c.args.count (file_seen c.args.self.now)) (sym all) (alarms_ring c.args.count (file_seen c.args.self.now));
    }
