-- Each sweep begins anew, over nodes that have begun again.
use Rattle.std.proofs.Common.{[]}
use Rattle.gtd_eval.specs.facts.NodeFacts.{node_list-normal}
use Rattle.gtd_eval.proofs.node.Node.+begin_again.Goals as goal

pub returns-in-One-clause-sound : goal.returns-in-One-clause-sound
returns-in-One-clause-sound g t c =
    let inner = c.begin_again-in-One in
    let normal = node_list-normal g.L.Leaf g.met.L.Leaf.is_normal inner.new.self inner.ensures.sound in
    (c.outside.ensures.one_side, c.outside.ensures.fits _ [] normal, inner.ensures.sound)

pub returns-in-Two-clause-sound : goal.returns-in-Two-clause-sound
returns-in-Two-clause-sound g t c =
    let normal = node_list-normal g.L.Leaf g.met.L.Leaf.is_normal in
    let left = c.begin_again-in-Two in
    let right = c.begin_again-in-Two-2 in (
      c.new.ensures.fits _ _ (normal left.new.self left.ensures.sound) (normal right.new.self right.ensures.sound),
      left.ensures.sound,
      right.ensures.sound,
    )
