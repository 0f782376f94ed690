-- What comes after a range, without what is from the next one on, are the days that no range holds.
use Rattle.std.proofs.lemmas.Result.{IfOk-weaker}
use Rattle.gtd_hours_leaves.specs.Leaves.{minutes_of, moved_day}
use Rattle.gtd_hours_selectors.proofs.MovingLemmas.{between-days}
use Rattle.gtd_hours_selectors.proofs.moving.between.Goals as goal

pub returns-clause-days : goal.returns-clause-days
returns-clause-days c =
    IfOk-weaker c.join.result _ _
    (λ e h s. between-days _ _ _ c.args.range c.args.months c.end_days-2.result c.end_days.result
    (moved_day (minutes_of c.args.clock) s) c.end_days-2.ensures.value c.end_days.ensures.value c.requires.months
    c.requires.some.0 (c.in_ok-after.ensures.days s) (c.in_ok-first.ensures.days s) (h s))
    c.join.ensures.seconds
