use Rattle.std.proofs.Common.{◌≡◌, length, arith, rules, length-append}
use Rattle.clock_core.proofs.Rows.{made_same}
use Rattle.msm62x42.specs.Part.{registers, seen}
use Rattle.msm62x42.proofs.part.Msm62x42.registers.Goals as goal

pub returns : goal.returns
returns c =
    let whole : length (registers (seen c.args.self.now)) ≡ 16 = simp length-append (omega (arith, c.args.self.now.core.map.cells.thirteen)) in
    made_same _ (registers (seen c.args.self.now)) _ _ (λ i y q k. search rules) 16 whole c.from_fn.ensures.items
