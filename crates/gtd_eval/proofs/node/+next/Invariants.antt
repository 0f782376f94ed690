-- The calls go down to nodes of fewer parts; at each turn the list still to come is that of the call's begin, and the
-- sides hold fewer spans or have ended.
use Rattle.std.proofs.Common.{◌≡◌, ◌+◌, ◌*◌, length, []}
use Rattle.gtd_spans.specs.Sweeping.{Fits, HasOneSide, still, unended_sides}
use Rattle.gtd_eval.specs.Nodes.{node_list, node_whole, node_shape, node_parts, IsSoundNode}
use Rattle.gtd_eval.proofs.node.+next.Given as goal

abbrev pub decreases-Node::next : goal.decreases-Node::next
decreases-Node::next g l = 2 * node_parts g.L.Leaf l.self.now

abbrev pub decreases-next_of_one : goal.decreases-next_of_one
decreases-next_of_one g l = 2 * node_parts g.L.Leaf l.inner.now + 1

abbrev pub decreases-next_of_two : goal.decreases-next_of_two
decreases-next_of_two g l = 2 * (node_parts g.L.Leaf l.left.now + node_parts g.L.Leaf l.right.now) + 1

abbrev pub invariant-next_of_one-loop-inner : goal.invariant-next_of_one-loop-inner
invariant-next_of_one-loop-inner g l = record {
  sound : IsSoundNode g.L.Leaf l.inner;
  one_side : HasOneSide l.sweep;
  fits : Fits l.sweep (node_list g.L.Leaf l.inner) [];
  same : still l.initial.sweep (node_list g.L.Leaf l.initial.inner) [] ≡ still l.sweep (node_list g.L.Leaf l.inner) [];
  shape : node_shape g.L.Leaf l.inner ≡ node_shape g.L.Leaf l.initial.inner;
  whole : node_whole g.L.Leaf l.inner ≡ node_whole g.L.Leaf l.initial.inner;
}

abbrev pub decreases-next_of_one-loop-inner : goal.decreases-next_of_one-loop-inner
decreases-next_of_one-loop-inner g l = length (node_list g.L.Leaf l.inner) + unended_sides l.sweep

abbrev pub invariant-next_of_two-loop-sweep : goal.invariant-next_of_two-loop-sweep
invariant-next_of_two-loop-sweep g l = record {
  left_sound : IsSoundNode g.L.Leaf l.left;
  right_sound : IsSoundNode g.L.Leaf l.right;
  fits : Fits l.sweep (node_list g.L.Leaf l.left) (node_list g.L.Leaf l.right);
  same : still l.initial.sweep (node_list g.L.Leaf l.initial.left) (node_list g.L.Leaf l.initial.right)
      ≡ still l.sweep (node_list g.L.Leaf l.left) (node_list g.L.Leaf l.right);
  left_shape : node_shape g.L.Leaf l.left ≡ node_shape g.L.Leaf l.initial.left;
  right_shape : node_shape g.L.Leaf l.right ≡ node_shape g.L.Leaf l.initial.right;
  left_whole : node_whole g.L.Leaf l.left ≡ node_whole g.L.Leaf l.initial.left;
  right_whole : node_whole g.L.Leaf l.right ≡ node_whole g.L.Leaf l.initial.right;
}

abbrev pub decreases-next_of_two-loop-sweep : goal.decreases-next_of_two-loop-sweep
decreases-next_of_two-loop-sweep g l =
    length (node_list g.L.Leaf l.left) + length (node_list g.L.Leaf l.right) + unended_sides l.sweep
