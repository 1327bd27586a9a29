use Rattle.std.proofs.Common.{sym, ap, ◌∙◌}
use Rattle.std.specs.Option.{option_map}
use Rattle.register_map.specs.Chart.{second_of}
use Rattle.clock_core.proofs.Values.{counted_waiting}
use Rattle.clock_core.proofs.clock.ClockCore.counted_seconds.Goals as goal

pub returns-then-boundary_waits : goal.returns-then-boundary_waits
returns-then-boundary_waits g c =
    let shows = g.met.M.RegisterMap.shows c.args.self.now.map in
    counted_waiting g.M.RegisterMap.chart g.met.M.RegisterMap.lawful _ _ _ _ (sym c.boundary_waits.ensures ∙ c.if-boundary_waits.true)
    (c.in_ok-value.ensures ∙ ap (option_map second_of) shows) c.value_after.ensures
