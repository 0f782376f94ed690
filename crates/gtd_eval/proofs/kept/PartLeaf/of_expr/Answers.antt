-- A basic domain that is not kept is a leaf by its runs, as in a cursor that keeps nothing.
use Rattle.gtd_eval.proofs.Leaves.{runs-whole}
use Rattle.gtd_eval.proofs.kept.PartLeaf.of_expr.Goals as goal

pub returns-in-Leaf-clause-whole : goal.returns-in-Leaf-clause-whole
returns-in-Leaf-clause-whole c =
    rw c.in-Leaf.is (runs-whole c.in-Leaf.basic c.args.horizon c.new.result c.new.ensures.normal c.new.ensures.basic
    c.new.ensures.horizon)
