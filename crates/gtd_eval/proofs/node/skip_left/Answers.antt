-- What is left out makes no difference.
use Rattle.gtd_eval.specs.Nodes.{node_list}
use Rattle.gtd_eval.proofs.node.skip_left.Goals as goal

pub returns-in-Some-clause-fits : goal.returns-in-Some-clause-fits
returns-in-Some-clause-fits g c =
    let fits = rw c.in-Leaf.is at c.requires.fits in
    (c.in-Some.ensures.needs c.requires.awaits _ _ (node_list g.L.Leaf c.args._right.now) c.skip_to.ensures.leaves
    (rw c.deref_mut.ensures.value fits)).0
