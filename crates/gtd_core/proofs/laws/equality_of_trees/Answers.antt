-- Trees that compare as equal are the same tree, and a tree compares as equal to itself.
use Rattle.gtd_core.specs.facts.EqualTrees.{tree_equal, equal_same}
use Rattle.gtd_core.proofs.laws.equality_of_trees.Goals as goal

pub returns : goal.returns
returns c = record { same = λ a b. (tree_equal a b, equal_same a b) }
