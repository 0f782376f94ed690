-- The day that is computed is one before which the expression ends by its years.
use Rattle.gtd_core.specs.Trees.{tree_of}
use Rattle.gtd_core.specs.facts.Leaves.{leaves_are_valid}
use Rattle.gtd_warnings.proofs.EndFacts.{end_day_is}
use Rattle.gtd_warnings.proofs.over.end_day.Goals as goal

pub returns : goal.returns
returns c = record {
  day = rw (c.computed_end.ensures.value) (end_day_is (tree_of c.args.expr.now) (leaves_are_valid c.args.expr.now));
}
