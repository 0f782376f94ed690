-- The years of the dated hours end with the known ones.
use Rattle.gtd_hours_known.proofs.easter.own_hours.Goals as goal

pub returns-clause-hours : goal.returns-clause-hours
returns-clause-hours c = record {
  easter = c.in_ok-easter.easter.items;
  are = c.in_ok-easter.ensures.days;
  dated = c.in_ok-dated.dated;
  stands = c.in_ok-dated.ensures.hours;
  until = c.in_ok-hours.ensures.hours;
}
