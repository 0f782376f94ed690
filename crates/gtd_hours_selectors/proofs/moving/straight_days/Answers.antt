-- What is from the first day of a range on, without what comes after its last day, are the days of the range.
use Rattle.std.proofs.lemmas.Result.{IfOk-weaker}
use Rattle.gtd_hours_leaves.specs.Leaves.{minutes_of, moved_day}
use Rattle.gtd_hours_selectors.proofs.MovingLemmas.{straight-days}
use Rattle.gtd_hours_selectors.proofs.moving.straight_days.Goals as goal

pub returns-clause-days : goal.returns-clause-days
returns-clause-days c =
    IfOk-weaker c.join.result _ _
    (λ e h s. straight-days _ _ _ c.args.range c.args.months c.end_days.result c.end_days-2.result
    (moved_day (minutes_of c.args.clock) s) c.end_days.ensures.value c.end_days-2.ensures.value c.requires.months c.requires.few
    (c.in_ok-first.ensures.days s) (c.in_ok-after.ensures.days s) (h s))
    c.join.ensures.seconds
