use Rattle.calendar.proofs.MonthLaws.{whole_year}
use Rattle.calendar.proofs.DateLaws.{date_of_number, dated, follows}
use Rattle.calendar.proofs.MomentLaws.{civil_of_moment, moment_of_civil, lawful_civil, advances}
use Rattle.calendar.proofs.laws.calendar_keeps_its_laws.Goals as goal

pub returns : goal.returns
returns c =
    record {
      years_join = whole_year;
      day_has_a_date = λ day. (dated day).lawful;
      number_of_its_date = λ day. (dated day).numbered;
      date_of_its_number = date_of_number;
      next_date_next_day = λ years d ok h. (follows years d ok h).stepped;
      moment_has_fields = lawful_civil;
      moment_of_its_fields = moment_of_civil;
      fields_of_its_moment = civil_of_moment;
      next_fields_next_moment = λ years f ok h. (advances years f ok h).stepped;
    }
