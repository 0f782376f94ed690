use Rattle.gtd_hours_ranges.proofs.DayLemmas.{dates_range, no_dates, unless_some}
use Rattle.gtd_hours_ranges.proofs.days.dates_of.Goals as goal

pub returns-in-Some-last_date-clause-none : goal.returns-in-Some-last_date-clause-none
returns-in-Some-last_date-clause-none c =
    unless_some c.new.result c.new.ensures.accepted
    (λ none x h. none (dates_range c.args.year c.args.last_year c.args.first c.args.last c.in-Some.first_date
    c.in-Some-last_date.last_date c.in-Some.ensures.kept c.in-Some-last_date.ensures.kept x h))

pub returns-in-None-last_date-clause-none : goal.returns-in-None-last_date-clause-none
returns-in-None-last_date-clause-none c =
    no_dates c.args.year c.args.last_year c.args.first c.args.last c.in-Some.first_date c.in-Some.ensures.kept
    c.in-None-last_date.ensures.none
