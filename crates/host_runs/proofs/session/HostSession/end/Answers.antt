use Rattle.std.proofs.Common.{ap}
use Rattle.host_wires.specs.Record.{Wired}
use Rattle.host_runs.specs.Hosts.{seat}
use Rattle.host_runs.proofs.Wires.{end_on_wires}
use Rattle.host_runs.proofs.session.HostSession.end.Goals as goal

pub returns-clause-levels : goal.returns-clause-levels
returns-clause-levels c = end_on_wires (seat c.args.self) _ _ (ap (λ (w : Wired). w.part) c.end_by_state.ensures)
