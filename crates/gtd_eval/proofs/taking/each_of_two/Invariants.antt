-- Whatever the taker does with the spans that the sweep still has to give, it does with all of them.
use Rattle.std.proofs.Common.{◌≡◌, ◌+◌, length}
use Rattle.gtd_spans.specs.Sweeping.{Fits, still, unended_sides}
use Rattle.gtd_eval.specs.Nodes.{node_list, node_whole, node_shape, IsSoundNode}
use Rattle.gtd_eval.specs.Taking.{CarriesOn}
use Rattle.gtd_eval.proofs.taking.each_of_two.Given as goal

abbrev pub invariant-loop-sweep : goal.invariant-loop-sweep
invariant-loop-sweep g l = record {
  left_sound : IsSoundNode g.L.Leaf l.left;
  right_sound : IsSoundNode g.L.Leaf l.right;
  fits : Fits l.sweep (node_list g.L.Leaf l.left) (node_list g.L.Leaf l.right);
  carries : CarriesOn g.T.SpanTaker.takes (still l.sweep (node_list g.L.Leaf l.left) (node_list g.L.Leaf l.right)) l.into l.taker
      (still l.initial.sweep (node_list g.L.Leaf l.initial.left) (node_list g.L.Leaf l.initial.right)) l.initial.into
      l.initial.taker;
  ready : g.T.SpanTaker.is_ready l.into l.taker (still l.sweep (node_list g.L.Leaf l.left) (node_list g.L.Leaf l.right));
  left_shape : node_shape g.L.Leaf l.left ≡ node_shape g.L.Leaf l.initial.left;
  right_shape : node_shape g.L.Leaf l.right ≡ node_shape g.L.Leaf l.initial.right;
  left_whole : node_whole g.L.Leaf l.left ≡ node_whole g.L.Leaf l.initial.left;
  right_whole : node_whole g.L.Leaf l.right ≡ node_whole g.L.Leaf l.initial.right;
}

abbrev pub decreases-loop-sweep : goal.decreases-loop-sweep
decreases-loop-sweep g l = length (still l.sweep (node_list g.L.Leaf l.left) (node_list g.L.Leaf l.right))
    + (length (node_list g.L.Leaf l.left) + (length (node_list g.L.Leaf l.right) + unended_sides l.sweep))
