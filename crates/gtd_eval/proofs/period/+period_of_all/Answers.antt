-- What repeats after a period repeats after each longer one, so both sides repeat after the longer of their two.
use Rattle.gtd_core.specs.Trees.{tree_of}
use Rattle.gtd_recur.specs.Periods.{period_seconds}
use Rattle.gtd_eval.specs.facts.PeriodFacts.{all-longer}
use Rattle.gtd_eval.proofs.period.+period_of_all.Goals as goal

pub returns-in_ok-right-in-Join-clause-period : goal.returns-in_ok-right-in-Join-clause-period
returns-in_ok-right-in-Join-clause-period t c = rw c.in-Join.is (
  all-longer (period_seconds c.in_ok-left-in-Join.left) (period_seconds c.longer.result) (tree_of c.in-Join.left.value)
      c.longer.ensures.first (rw (← c.deref.ensures) c.in_ok-left-in-Join.ensures.period),
  all-longer (period_seconds c.in_ok-right-in-Join.right) (period_seconds c.longer.result) (tree_of c.in-Join.right.value)
      c.longer.ensures.second (rw (← c.deref-in-Join.ensures) c.in_ok-right-in-Join.ensures.period),
)
