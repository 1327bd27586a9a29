use Rattle.std.proofs.Common.{◌∙◌, arith}
use Rattle.clock_core.proofs.Runs.{pulses_run, pulses_given}
use Rattle.clock_core.proofs.clock.ClockCore.pulses.Goals as goal

pub loop-left-preserved : goal.loop-left-preserved
loop-left-preserved g c =
    let run =
    pulses_run g.M.RegisterMap.chart _ _ _ _ c.run_to_boundary-left.ensures c.loop-left.self.within_second c.loop-left-test.true in
    (omega arith, run.1 ∙ c.loop-left.invariant.1)

pub returns : goal.returns
returns g c =
    pulses_given g.M.RegisterMap.chart _ _ _ _ c.loop-left-test.false (omega arith) c.loop-left.invariant.1
