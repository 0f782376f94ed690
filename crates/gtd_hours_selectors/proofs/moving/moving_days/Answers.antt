-- All days without those between two ranges are the days of the ranges.
use Rattle.std.proofs.lemmas.Result.{IfOk-weaker}
use Rattle.gtd_hours_leaves.specs.Leaves.{minutes_of, moved_day}
use Rattle.gtd_hours_selectors.proofs.MovingLemmas.{rest-days}
use Rattle.gtd_hours_selectors.proofs.moving.moving_days.Goals as goal

pub returns-clause-days : goal.returns-clause-days
returns-clause-days c =
    IfOk-weaker c.join.result _ _
    (λ e h s. rest-days _ _ _ c.args.range (moved_day (minutes_of c.args.clock) s) (c.each_day.ensures.days s)
    (c.in_ok-rest.ensures.days s) (h s))
    c.join.ensures.seconds
