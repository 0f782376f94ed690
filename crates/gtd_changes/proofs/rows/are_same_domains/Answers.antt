-- Two domains that compare as equal are the same tree.
use Rattle.std.proofs.Common.{◌∙◌, ap, sym}
use Rattle.std.specs.Prelude.{Some}
use Rattle.gtd_core.specs.Trees.{Tree}
use Rattle.gtd_core.specs.facts.EqualTrees.{tree_equal}
use Rattle.gtd_changes.proofs.rows.are_same_domains.Goals as goal

pub returns-in-Some-two : goal.returns-in-Some-two
returns-in-Some-two c = record {
  same = λ t. rw (c.in-Some.is, c.in-Some-two.is) (ap (λ (x : Tree). Some x) (tree_equal _ _ (sym c.eq.ensures ∙ t)));
}
