use Rattle.std.proofs.Common.{ap, ◌∙◌, arith}
use Rattle.calendar.specs.Months.{leap, month_lengths}
use Rattle.calendar.specs.Dates.{date_in_year}
use Rattle.calendar.proofs.RunLaws.{start_none}
use Rattle.calendar.proofs.MonthLaws.{month_more, in_december}
use Rattle.calendar.proofs.DateLaws.{in_month}
use Rattle.calendar.proofs.date.Date.in_year.Goals as goal

pub loop-month-init : goal.loop-month-init
loop-month-init c = omega (arith, start_none (month_lengths (leap c.args.year)))

pub returns-then-rest-length : goal.returns-then-rest-length
returns-then-rest-length c =
    in_month c.args.year c.loop-month.month c.loop-month.rest (omega arith) (omega arith) (omega arith)
    ∙ ap (date_in_year c.args.year) c.loop-month.invariant

pub loop-month-preserved : goal.loop-month-preserved
loop-month-preserved c =
    omega (arith, month_more (leap c.args.year) c.loop-month.month (omega arith) (omega arith))

-- past the loop what is left falls in December
pub overflow_cast-result-2 : goal.overflow_cast-result-2
overflow_cast-result-2 c = omega (arith, in_december (leap c.args.year) c.loop-month.month c.loop-month.rest c.args.day (omega arith) (omega arith) c.requires)

pub overflow_add-result-2 : goal.overflow_add-result-2
overflow_add-result-2 c = omega (arith, in_december (leap c.args.year) c.loop-month.month c.loop-month.rest c.args.day (omega arith) (omega arith) c.requires)

pub invariant_of-result-2 : goal.invariant_of-result-2
invariant_of-result-2 c =
    let h = in_december (leap c.args.year) c.loop-month.month c.loop-month.rest c.args.day (omega arith) (omega arith) c.requires in
    record { from_january = omega arith; to_december = omega arith; from_first = omega arith; to_last = omega (arith, h) }

pub returns : goal.returns
returns c =
    let h = in_december (leap c.args.year) c.loop-month.month c.loop-month.rest c.args.day (omega arith) (omega arith) c.requires in
    in_month c.args.year 12 c.loop-month.rest (omega arith) (omega arith) h.0
    ∙ ap (date_in_year c.args.year) h.1
