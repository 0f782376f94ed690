use Rattle.std.specs.Prelude.{◌<ℤ◌, ◌≤ℤ◌}
use Rattle.gtd_core.specs.Trees.{tree_of}
use Rattle.gtd_core.specs.Whole.{whole}
use Rattle.gtd_spans.specs.Change.{NeverChanges}
use Rattle.gtd_eval.specs.Membership.{InTree}
use Rattle.gtd_eval.proofs.stay.alike_until.Given as goal

-- nothing changes so far
abbrev pub invariant-loop : goal.invariant-loop
invariant-loop l = record {
  later : l.fn.second.0 <ℤ l.at.0;
  within : l.at.0 ≤ℤ (whole l.horizon).until;
  never : NeverChanges (InTree (tree_of l.expr)) l.fn.second.0 l.at.0;
  long : l.first.until.0 ≤ℤ l.at.0;
}
