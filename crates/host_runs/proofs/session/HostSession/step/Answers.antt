use Rattle.std.proofs.Common.{ap}
use Rattle.host_runs.specs.Hosts.{seat, Stepped}
use Rattle.host_runs.proofs.SessionReads.{cells_are_heard, cells_agree}
use Rattle.host_runs.proofs.Wires.{step_on_wires}
use Rattle.host_runs.proofs.session.HostSession.step.Goals as goal

pub returns-clause-levels : goal.returns-clause-levels
returns-clause-levels c =
    step_on_wires (seat c.args.self) _ _ c.args.buffer.now c.args.call (ap (λ (r : Stepped). r.part) c.step_by_state.ensures)

pub returns-clause-heard : goal.returns-clause-heard
returns-clause-heard c = cells_are_heard (seat c.args.self) _ c.args.buffer.now c.args.call _ c.step_by_state.ensures

pub returns-clause-reads : goal.returns-clause-reads
returns-clause-reads c = cells_agree (seat c.args.self) _ c.args.buffer.now c.args.call _ c.step_by_state.ensures
