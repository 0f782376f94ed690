use Rattle.gtd_hours_ranges.proofs.DayLemmas.{not-late}
use Rattle.gtd_hours_ranges.proofs.dates.late_date.Goals as goal

pub returns-else-is_late-clause-none : goal.returns-else-is_late-clause-none
returns-else-is_late-clause-none c =
    not-late c.args.end c.args.year c.args.first c.in-Some.date c.in-Some.ensures.kept
    (λ le. let yes = c.is_late.ensures.1 le in cc)

pub returns-in-None-clause-none : goal.returns-in-None-clause-none
returns-in-None-clause-none c = λ x h. c.in-None.ensures.none x h.0
