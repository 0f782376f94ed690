-- Whatever the taker does with the spans that the sweep still has to give, it does with all of them.
use Rattle.std.proofs.Common.{◌≡◌, ◌+◌, [], length}
use Rattle.gtd_spans.specs.Sweeping.{Fits, HasOneSide, still, unended_sides}
use Rattle.gtd_eval.specs.Nodes.{node_list, node_whole, node_shape, IsSoundNode}
use Rattle.gtd_eval.specs.Taking.{CarriesOn}
use Rattle.gtd_eval.proofs.taking.each_outside.Given as goal

abbrev pub invariant-loop-sweep : goal.invariant-loop-sweep
invariant-loop-sweep g l = record {
  sound : IsSoundNode g.L.Leaf l.inner;
  one_side : HasOneSide l.sweep;
  fits : Fits l.sweep (node_list g.L.Leaf l.inner) [];
  carries : CarriesOn g.T.SpanTaker.takes (still l.sweep (node_list g.L.Leaf l.inner) []) l.into l.taker
      (still l.initial.sweep (node_list g.L.Leaf l.initial.inner) []) l.initial.into l.initial.taker;
  ready : g.T.SpanTaker.is_ready l.into l.taker (still l.sweep (node_list g.L.Leaf l.inner) []);
  shape : node_shape g.L.Leaf l.inner ≡ node_shape g.L.Leaf l.initial.inner;
  whole : node_whole g.L.Leaf l.inner ≡ node_whole g.L.Leaf l.initial.inner;
}

abbrev pub decreases-loop-sweep : goal.decreases-loop-sweep
decreases-loop-sweep g l = length (still l.sweep (node_list g.L.Leaf l.inner) [])
    + (length (node_list g.L.Leaf l.inner) + unended_sides l.sweep)
