-- The days up to a place from one on that lies some weeks before, without those before the place, are its days.
use Rattle.std.proofs.Common.{◌≡◌, ◌∙◌, ◌≤◌, arith}
use Rattle.std.proofs.lemmas.Result.{IfOk-weaker}
use Rattle.gtd_hours_leaves.specs.Leaves.{minutes_of, moved_day}
use Rattle.gtd_hours_selectors.proofs.MovingLemmas.{moved-day, moved-days}
use Rattle.gtd_hours_selectors.proofs.moving.moved_days.Goals as goal

pub returns-then-days-eq0-clause-days : goal.returns-then-days-eq0-clause-days
returns-then-days-eq0-clause-days c s =
    let none : c.from-days.result ≡ 0 = omega (arith, c.if-days-eq0.true) in
    moved-day _ c.on_parts-parts.result c.args.place c.from-days.result (moved_day (minutes_of c.args.clock) s)
    (c.from-days.ensures ∙ c.days_on.ensures.value) none c.on_parts-parts.ensures.on (c.each_days-all.ensures.days s)

pub returns-clause-days : goal.returns-clause-days
returns-clause-days c =
    let few : c.from-days.result ≤ 27 = omega (arith, c.from-days.ensures, c.days_on.ensures.few) in
    IfOk-weaker c.join.result _ _
    (λ e h s. moved-days _ _ _ c.on_parts-parts.result c.args.place c.from-days.result (moved_day (minutes_of c.args.clock) s)
    (c.from-days.ensures ∙ c.days_on.ensures.value) few c.on_parts-parts.ensures.on (c.each_days-all.ensures.days s)
    (c.each_days.ensures.days s) (h s))
    c.join.ensures.seconds
