use Rattle.std.proofs.Common.{arith}
use Rattle.calendar.proofs.MonthLaws.{whole_year}
use Rattle.calendar.proofs.date.Date.from_day.Goals as goal

pub in_year-requires : goal.in_year-requires
in_year-requires c = omega (arith, whole_year c.year_of_day-year.result)
