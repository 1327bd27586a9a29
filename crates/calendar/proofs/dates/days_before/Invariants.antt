use Rattle.std.proofs.Common.{◌≡◌, ◌-◌}
use Rattle.calendar.specs.Runs.{start}
use Rattle.calendar.specs.Months.{leap, month_lengths}
use Rattle.calendar.proofs.dates.days_before.Given as goal

-- the days of the months passed
abbrev pub invariant-loop-earlier : goal.invariant-loop-earlier
invariant-loop-earlier l = l.days ≡ start (month_lengths (leap l.year)) (l.earlier - 1)
