-- Dates, months, weekdays, weeks and ends of stretches each come back after 146,097 days, by a lemma each.
use Rattle.gtd_calendar.specs.facts.CycleLemmas.{date-cycle, month_length-cycle, weekday_of-cycle, week-cycle, stop-cycle}
use Rattle.gtd_calendar.proofs.laws.calendar_repeats.Goals as goal

pub returns : goal.returns
returns c = record {
  dates = date-cycle;
  months = month_length-cycle;
  weekdays = weekday_of-cycle;
  weeks = week-cycle;
  stretches = stop-cycle;
}
