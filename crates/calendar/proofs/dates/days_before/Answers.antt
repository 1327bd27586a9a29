use Rattle.std.proofs.Common.{◌≡◌, ◌-◌, ap, arith}
use Rattle.calendar.specs.Runs.{start}
use Rattle.calendar.specs.Months.{leap, month_lengths}
use Rattle.calendar.proofs.RunLaws.{start_none}
use Rattle.calendar.proofs.MonthLaws.{year_at_most, before_year_ends, month_ends, month_more}
use Rattle.calendar.proofs.dates.days_before.Goals as goal

pub loop-earlier-init : goal.loop-earlier-init
loop-earlier-init c = omega (arith, start_none (month_lengths (leap c.args.year)))

pub overflow_add-days : goal.overflow_add-days
overflow_add-days c =
    omega (
      arith,
      year_at_most (leap c.args.year),
      before_year_ends (leap c.args.year) c.loop-earlier.earlier,
      month_ends (leap c.args.year) c.loop-earlier.earlier (omega arith) (omega arith),
    )

pub loop-earlier-preserved : goal.loop-earlier-preserved
loop-earlier-preserved c =
    omega (arith, month_more (leap c.args.year) c.loop-earlier.earlier (omega arith) (omega arith))

pub returns : goal.returns
returns c =
    let month : c.loop-earlier.earlier - 1 ≡ c.args.month - 1 = omega arith in
    let days = ap (start (month_lengths (leap c.args.year))) month in
    record {
      value = omega (arith, days);
      bound = omega (arith, year_at_most (leap c.args.year), before_year_ends (leap c.args.year) (c.loop-earlier.earlier - 1));
    }
