-- An expression whose basic domains all repeat after the period has a list of spans that does.
use Rattle.gtd_core.specs.Trees.{tree_of}
use Rattle.gtd_eval.specs.Cursors.{cursor_list}
use Rattle.gtd_eval.proofs.Unions.{expr-fits}
use Rattle.gtd_eval.proofs.kept.KeptPeriod.of_expr.Goals as goal

pub new-requires : goal.new-requires
new-requires c = record {
  kept = expr-fits (tree_of c.args.expr.now) c.args.horizon (cursor_list c.in_ok-inner.inner) c.args.period
      c.in_ok-inner.ensures.whole.normal c.requires.repeats;
}
