use Rattle.std.proofs.Common.{arith, rules}
use Rattle.clock_core.specs.Core.{registers}
use Rattle.clock_core.specs.View.{meant}
use Rattle.clock_core.proofs.Rows.{made_same, filled_length}
use Rattle.clock_core.proofs.clock.ClockCore.registers.Goals as goal

pub returns : goal.returns
returns g c =
    let few = g.met.M.RegisterMap.lawful.few_cells in
    let whole = g.met.M.RegisterMap.whole c.args.self.now.map in
    made_same _ (registers (meant g.M.RegisterMap c.args.self.now)) _ _ (λ i y q k. search rules) 16 (filled_length (g.M.RegisterMap.cells c.args.self.now.map) (omega arith)) c.from_fn.ensures.items
