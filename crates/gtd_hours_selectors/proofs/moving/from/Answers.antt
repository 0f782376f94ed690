-- The stretches of months without those of the first days; with no first days they are the stretches of months.
use Rattle.std.proofs.Common.{◌≡◌, arith}
use Rattle.std.proofs.lemmas.Result.{IfOk-weaker}
use Rattle.gtd_hours_leaves.specs.Leaves.{minutes_of, moved_day}
use Rattle.gtd_hours_selectors.proofs.MovingLemmas.{from-days, from-first}
use Rattle.gtd_hours_selectors.proofs.moving.from.Goals as goal

pub returns-then-days-eq0-clause-days : goal.returns-then-days-eq0-clause-days
returns-then-days-eq0-clause-days c s =
    let none : c.args.days ≡ 0 = omega (arith, c.if-days-eq0.true) in
    from-first _ c.args.end c.args.months c.args.days (moved_day (minutes_of c.args.clock) s) none
    (c.months_from-all.ensures.days s)

pub returns-clause-days : goal.returns-clause-days
returns-clause-days c =
    IfOk-weaker c.join.result _ _
    (λ e h s. from-days _ _ _ c.args.end c.args.months c.args.days (moved_day (minutes_of c.args.clock) s)
    (c.months_from-all.ensures.days s) (c.days_from.ensures.days s) (h s))
    c.join.ensures.seconds
