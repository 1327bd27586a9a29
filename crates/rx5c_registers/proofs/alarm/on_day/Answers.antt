use Rattle.std.proofs.Common.{sym, ◌∙◌, le-ltb}
use Rattle.rx5c_registers.proofs.Days.{no_day}
use Rattle.rx5c_registers.proofs.alarm.on_day.Goals as goal

pub returns-else-weekday-lt8 : goal.returns-else-weekday-lt8
returns-else-weekday-lt8 c =
    le-ltb _ _ c.if-weekday-lt8.false ∙ sym (no_day c.args.days c.args.weekday c.ranges.days.fits c.if-weekday-lt8.false)
