use Rattle.std.proofs.Common.{◌≡◌, ◌++◌, ◌≤◌, length, map, take, drop}
use Rattle.rx5c_registers.specs.Alarms.{rung}
use Rattle.rx5c_registers.proofs.clock.ring_rows.Given as goal

abbrev pub invariant-loop-row : goal.invariant-loop-row
invariant-loop-row l =
    (l.row-index ≤ length l.fn.rows) × (l.row-items ≡ map (rung l.minute l.hour l.weekday) (take l.row-index l.fn.rows) ++ drop l.row-index l.fn.rows)
