use Rattle.std.proofs.Common.{ap, arith}
use Rattle.calendar.proofs.MomentLaws.{year_in_cycle}
use Rattle.civil_map.proofs.map.CivilMapRegisterMap.show.Goals as goal

pub of-requires : goal.of-requires
of-requires g c = omega (arith, c.requires.in_cycle, c.requires.in_week, g.met.C.FieldCells.two_centuries)

pub row-self-requires : goal.row-self-requires
row-self-requires g c =
    omega (arith, ap (λ f. f.civil.on.year) c.of.ensures, year_in_cycle g.C.FieldCells.YEARS c.args.at.moment c.requires.in_cycle)
