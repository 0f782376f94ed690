use Rattle.gtd_hours_ranges.proofs.DayLemmas.{if_none, if_some, no_days}
use Rattle.gtd_hours_ranges.proofs.days.days_of.Goals as goal

pub returns-in-Some-end_of-clause-kept : goal.returns-in-Some-end_of-clause-kept
returns-in-Some-end_of-clause-kept c =
    if_some c.days_between.result
    (λ x h. (c.in-Some.first, c.in-Some-end_of.last, c.in-Some.ensures.kept, c.in-Some-end_of.ensures.kept, h))
    c.days_between.ensures.kept

pub returns-in-Some-end_of-clause-none : goal.returns-in-Some-end_of-clause-none
returns-in-Some-end_of-clause-none c =
    if_none c.days_between.result
    (no_days c.args.range c.in-Some.first c.in-Some-end_of.last c.in-Some.ensures.kept c.in-Some-end_of.ensures.kept)
    c.days_between.ensures.none
