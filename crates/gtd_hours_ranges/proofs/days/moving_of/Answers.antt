use Rattle.gtd_hours_ranges.proofs.DayLemmas.{no_moving}
use Rattle.gtd_hours_ranges.proofs.days.moving_of.Goals as goal

pub returns-in-None-clause-none : goal.returns-in-None-clause-none
returns-in-None-clause-none c =
    no_moving c.args.first c.args.last (λ over is. let yes = c.in-None.ensures.accepted.1 (over, is) in cc)
