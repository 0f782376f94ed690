-- The runs of a basic domain are what its expression asks of a leaf: its seconds, its work and one node.
use Rattle.gtd_eval.proofs.Leaves.{runs-whole}
use Rattle.gtd_eval.proofs.cursor.RunsLeaf.of_expr.Goals as goal

pub returns-in-Leaf-clause-whole : goal.returns-in-Leaf-clause-whole
returns-in-Leaf-clause-whole c =
    rw c.in-Leaf.is (runs-whole c.in-Leaf.basic c.args.horizon c.new.result c.new.ensures.normal c.new.ensures.basic
    c.new.ensures.horizon)
