-- A day on which some selector of each kind holds, as it is computed, is a day that matches, as it is defined.
use Rattle.std.proofs.lemmas.Result.{IfOk-weaker}
use Rattle.gtd_hours_leaves.specs.Leaves.{minutes_of, moved_day}
use Rattle.gtd_hours_selectors.proofs.DateLemmas.{same-after}
use Rattle.gtd_hours_selectors.proofs.DayLemmas.{matches-computed}
use Rattle.gtd_hours_selectors.proofs.days.matching_days.Goals as goal

pub returns-clause-days : goal.returns-clause-days
returns-clause-days c =
    IfOk-weaker c.kind_days.result _ _
    (λ e h s. same-after _ _ _ (matches-computed c.args.kinds.now (moved_day (minutes_of c.args.clock) s)) (h s))
    c.kind_days.ensures.days
