use Rattle.std.proofs.Common.{refl, arith}
use Rattle.calendar.specs.Dates.{date_in_year}
use Rattle.calendar.specs.Months.{month_lengths}
use Rattle.calendar.specs.Runs.{place, start}
use Rattle.byte_map.specs.Cells.{row}
use Rattle.timekeeping.specs.Seconds.{first_seconds}
use Rattle.figures.proofs.HeldOver.{held_two_on}
use Rattle.figures.proofs.figures_stand.Goals as goal

pub returns : goal.returns
unfolding date_in_year month_lengths place start row first_seconds
returns c =
    record {
      trims = record { trim_07 = refl; trim_7E = refl; trim_3F = refl; trim_42 = refl; trim_00 = refl; trim_01 = refl; trim_40 = refl; trim_41 = refl };
      calendars = record { new_century = refl; its_cells = refl; cycle_end = λ weekday. refl };
      seconds = record {
        none_at_32779 = record { fit = omega arith; no_more = omega arith };
        one_at_32780 = record { fit = omega arith; no_more = omega arith };
        twenty_at_655372 = record { fit = omega arith; no_more = omega arith };
        from_59_two_at_65548 = record { fit = omega arith; no_more = omega arith };
        held_two_on = held_two_on;
      };
    }
