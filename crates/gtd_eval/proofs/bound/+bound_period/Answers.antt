use Rattle.gtd_core.specs.Trees.{tree_of}
use Rattle.gtd_recur.specs.Periods.{period_seconds}
use Rattle.gtd_eval.proofs.BoundFacts.{weekly-longer}
use Rattle.gtd_eval.proofs.bound.+bound_period.Goals as goal

pub returns-in-Join : goal.returns-in-Join
returns-in-Join t c = record {
  repeats = rw c.in-Join.is (
    weekly-longer (period_seconds c.bound_period-left.result) (period_seconds c.longer.result) (tree_of c.in-Join.left.value)
        c.longer.ensures.first (rw (← c.deref.ensures) c.bound_period-left.ensures.repeats),
    weekly-longer (period_seconds c.bound_period-right.result) (period_seconds c.longer.result) (tree_of c.in-Join.right.value)
        c.longer.ensures.second (rw (← c.deref-in-Join.ensures) c.bound_period-right.ensures.repeats),
  );
}
