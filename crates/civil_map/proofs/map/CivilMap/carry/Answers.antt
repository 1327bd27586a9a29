use Rattle.std.proofs.Common.{◌≡◌, ap, ◌∙◌, arith}
use Rattle.calendar.specs.Dates.{next_date}
use Rattle.calendar.specs.Views.{date_of}
use Rattle.calendar.proofs.DateLaws.{follows}
use Rattle.civil_map.proofs.StepLaws.{lawful, new_second, new_minute, new_hour, new_date}
use Rattle.civil_map.proofs.map.CivilMap.carry.Goals as goal

pub returns-then-next-ne0 : goal.returns-then-next-ne0
returns-then-next-ne0 g c =
    new_second g.met.C.FieldCells.spells c.requires c.next-next.ensures (c.put_second.ensures c.args.self.now.mode) c.if-next-ne0.true

pub returns-then-next-ne0-2 : goal.returns-then-next-ne0-2
returns-then-next-ne0-2 g c =
    new_minute g.met.C.FieldCells.spells c.requires c.next-next.ensures
    (c.put_second.ensures c.args.self.now.mode) (c.put_minute.ensures c.args.self.now.mode)
    c.if-next-ne0.false c.if-next-ne0-2.true

pub returns-then-next-ne0-3 : goal.returns-then-next-ne0-3
returns-then-next-ne0-3 g c =
    new_hour g.met.C.FieldCells.spells c.requires c.next-next.ensures
    (c.put_second.ensures c.args.self.now.mode) (c.put_minute.ensures c.args.self.now.mode) c.put_hour.ensures
    c.if-next-ne0-3.true

pub next-requires : goal.next-requires
next-requires g c = omega (arith, c.YEARS.ensures, (lawful g.met.C.FieldCells.spells c.requires).in_years)

pub put_date-requires : goal.put_date-requires
put_date-requires g c =
    let ok = lawful g.met.C.FieldCells.spells c.requires in
    let f = follows g.C.FieldCells.YEARS (date_of c.args.from.date) ok.a_civil.a_date ok.in_years in
    let next : date_of c.next.result ≡ next_date g.C.FieldCells.YEARS (date_of c.args.from.date) = rw (← c.YEARS.ensures) c.next.ensures in
    omega (arith, ap (λ d. d.year) next, f.in_cycle)

pub returns : goal.returns
returns g c =
    new_date g.met.C.FieldCells.spells c.requires c.next-next.ensures
    (c.put_second.ensures c.args.self.now.mode) (c.put_minute.ensures c.args.self.now.mode) c.put_hour.ensures
    (rw (← c.next_weekday.ensures) (c.put_weekday.ensures c.args.self.now.mode)) (c.put_date.ensures c.args.self.now.mode)
    (c.next.ensures ∙ ap (λ years. next_date years (date_of c.args.from.date)) c.YEARS.ensures)
    (omega (arith, c.if-next-ne0.false, c.if-next-ne0-2.false, c.if-next-ne0-3.false))
