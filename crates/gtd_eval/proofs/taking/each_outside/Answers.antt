-- What the sweep takes from its side leaves its own list as it was, after the gaps that were handed on.
use Rattle.std.proofs.Common.{◌∙◌, [], refl}
use Rattle.gtd_eval.specs.Nodes.{node_list}
use Rattle.gtd_eval.proofs.taking.each_outside.Goals as goal

pub loop-sweep-preserved-in-Left : goal.loop-sweep-preserved-in-Left
loop-sweep-preserved-in-Left g c =
    let old = c.loop-sweep.invariant in
    let gap = c.if-not-each_gap.ensures in
    let kept = c.in-Left.ensures.steps.1 (node_list g.L.Leaf c.loop-sweep.inner) [] old.fits in
    let told = c.tell.ensures.left gap.awaits (node_list g.L.Leaf c.each_gap.new.inner)
    (node_list g.L.Leaf c.next-told.new.self) [] c.next-told.ensures.takes gap.fits in
    record {
      sound = c.next-told.ensures.sound;
      one_side = c.tell.ensures.sides.1 gap.one_side;
      fits = told.0;
      carries = λ left after then all h.
          old.carries left after then all (rw kept.1 (gap.takes left after then all (rw told.1 h)));
      ready = rw told.1 at (gap.ready refl);
      shape = c.next-told.ensures.shape ∙ gap.shape ∙ old.shape;
      whole = c.next-told.ensures.whole ∙ gap.whole ∙ old.whole;
    }
