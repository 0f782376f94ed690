use Rattle.gtd_hours_ranges.proofs.DayLemmas.{if_none, no_later}
use Rattle.gtd_hours_ranges.proofs.dates.later_date.Goals as goal

pub returns-in-None-clause-none : goal.returns-in-None-clause-none
returns-in-None-clause-none c =
    if_none c.date_in.result (no_later c.args.end c.args.year c.args.first c.in-None.ensures.none) c.date_in.ensures.none
