-- Each expression has a basic domain at least, so counting none as one changes nothing where there is an expression.
use Rattle.gtd_core.specs.Trees.{tree_of}
use Rattle.gtd_hours_leaves.specs.facts.LeafFacts.{no-less}
use Rattle.gtd_hours_leaves.proofs.leaves.or_nothing.Goals as goal

pub returns-in-Some-clause-leaves : goal.returns-in-Some-clause-leaves
returns-in-Some-clause-leaves c = rw c.in-Some.is (no-less (tree_of c.in-Some.expr))
