use Rattle.std.proofs.Common.{◌≡◌, ◌+◌, ◌-◌}
use Rattle.calendar.specs.Runs.{start}
use Rattle.calendar.specs.Months.{leap, month_lengths}
use Rattle.calendar.proofs.date.Date.in_year.Given as goal

-- the days of the months passed, and what is left, make the day
abbrev pub invariant-loop-month : goal.invariant-loop-month
invariant-loop-month l = start (month_lengths (leap l.year)) (l.month - 1) + l.rest ≡ l.day
