-- The chains of the two halves of the list, joined by one sweep, are the chain of the whole list.
use Rattle.std.proofs.Common.{◌<◌, List, ◌++◌, ap, ◌∙◌, arith, length, length-append, append_assoc}
use Rattle.gtd_core.specs.declared.domain.Op.{Op}
use Rattle.gtd_eval.specs.Chains.{IsChainOf}
use Rattle.gtd_eval.specs.Exprs.{right_of}
use Rattle.gtd_eval.specs.facts.NodeFacts.{node_list-normal}
use Rattle.gtd_eval.specs.declared.node.Node.{Node}
use Rattle.gtd_eval.specs.declared.tree.SweepTree.{SweepTree}
use Rattle.gtd_eval.proofs.Unions.{two-seconds, two-nodes, two-work, two-height, two-start}
use Rattle.gtd_eval.proofs.tree.SweepTree.+joining.Goals as goal

pub join_halves-returns : goal.join_halves-returns
join_halves-returns g t c =
    let a = c.in_ok-left.ensures.chain in
    let b = c.in_ok-right.ensures.chain in
    let ls : List (SweepTree g.row.L.Denot g.L.Leaf) = a.taken in
    let rs : List (SweepTree g.row.L.Denot g.L.Leaf) = b.taken in
    let op : Op = c.args.op in
    let to : Op = right_of op in
    let r : Node g.row.L.Denot = c.in_ok-both.both.value.1 in
    let l : Node g.row.L.Denot = c.in_ok-both.both.value.0 in
    let u : IsChainOf op ls l = rw c.in_ok-both.ensures.ok a.chain in
    let v : IsChainOf to rs r = rw (c.in_ok-both.ensures.ok, ← c.right_of.ensures) b.chain in
    let gt : 1 < c.args.count = c.requires.some in
    let some : 0 < length ls = omega (arith, a.many, gt) in
    let normal = node_list-normal g.L.Leaf g.met.L.Leaf.is_normal in
    record {
      chain = record {
        taken = ls ++ rs;
        split = b.split ∙ ap (λ (xs : List (SweepTree g.row.L.Denot g.L.Leaf)). xs ++ rs) a.split ∙ append_assoc _ ls rs;
        many = omega (arith, length-append ls rs, a.many, b.many);
        chain = record {
          sound = (c.new-2.ensures.fits _ _ (normal l u.sound) (normal r v.sound), u.sound, v.sound);
          seconds = two-seconds op ls rs _ _ _ (c.new-2.ensures.meaning _ _) some u v;
          nodes = two-nodes op to ls rs _ _ u v;
          work = two-work op to ls rs _ _ u v;
          height = two-height op to c.args.count ls rs _ _ gt b.many a.many u v;
          start = two-start op to ls rs _ _ _ (c.new-2.ensures.meaning _ _) u v;
        };
      };
    }
