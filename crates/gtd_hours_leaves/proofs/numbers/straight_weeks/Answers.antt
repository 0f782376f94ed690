-- The weeks up to 52 in one stretch, and week 53 of the years that have it, are the weeks of the range.
use Rattle.std.proofs.Common.{arith}
use Rattle.std.proofs.lemmas.Result.{IfOk-weaker}
use Rattle.gtd_hours_leaves.specs.Leaves.{HasNumber, minutes_of, moved_day}
use Rattle.gtd_hours_leaves.specs.declared.level.Level.TheVariants.{Week}
use Rattle.gtd_hours_leaves.proofs.PieceLemmas.{with-last}
use Rattle.gtd_hours_leaves.proofs.numbers.straight_weeks.Goals as goal

pub returns-clause-days : goal.returns-clause-days
returns-clause-days c =
    IfOk-weaker c.unite.result _ _
    (λ e h s. with-last _ _ _ (λ k. HasNumber Week k (moved_day (minutes_of c.args.clock) s)) c.args.first c.args.last
    (omega (arith, c.requires, c.if-first-eq53.false)) (omega (arith, c.requires, c.if-last-lt53.false))
    (c.week_run-before.ensures.days s) (c.week_run-2.ensures.days s) (h s))
    c.unite.ensures.seconds
