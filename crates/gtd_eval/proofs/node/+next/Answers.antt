-- What a sweep takes from a side leaves its own list as it was, and each step leaves less to take: over one side, and
-- over two.
use Rattle.std.proofs.Common.{◌∙◌, []}
use Rattle.gtd_eval.specs.Nodes.{node_list}
use Rattle.gtd_eval.proofs.node.+next.Goals as goal

pub next_of_one-loop-inner-preserved : goal.next_of_one-loop-inner-preserved
next_of_one-loop-inner-preserved g t c =
    let old = c.loop-inner.invariant in
    let kept = c.in-Left.ensures.steps.1 (node_list g.L.Leaf c.loop-inner.inner) [] old.fits in
    let told = c.tell.ensures.left c.in-Left.ensures.steps.0 (node_list g.L.Leaf c.loop-inner.inner)
    (node_list g.L.Leaf c.next-told.new.self) [] c.next-told.ensures.takes kept.0 in
    record {
      sound = c.next-told.ensures.sound;
      one_side = c.tell.ensures.sides.1 (c.in-Left.ensures.sides.1 old.one_side);
      fits = told.0;
      same = old.same ∙ kept.1 ∙ told.1;
      shape = c.next-told.ensures.shape ∙ old.shape;
      whole = c.next-told.ensures.whole ∙ old.whole;
    }

pub next_of_two-loop-sweep-preserved-in-Left : goal.next_of_two-loop-sweep-preserved-in-Left
next_of_two-loop-sweep-preserved-in-Left g t c =
    let old = c.loop-sweep.invariant in
    let kept = c.in-Left.ensures.steps.1 (node_list g.L.Leaf c.loop-sweep.left) (node_list g.L.Leaf c.loop-sweep.right)
    old.fits in
    let skip = c.skip_left.ensures in
    let told = c.tell-in-Left.ensures.left c.in-Left.ensures.steps.0 (node_list g.L.Leaf c.skip_left.new.left)
    (node_list g.L.Leaf c.next.new.self) (node_list g.L.Leaf c.loop-sweep.right) (rw c.in-Some.is at c.next.ensures.takes)
    skip.fits in
    record {
      left_sound = c.next.ensures.sound;
      right_sound = old.right_sound;
      fits = told.0;
      same = old.same ∙ kept.1 ∙ skip.same ∙ told.1;
      left_shape = c.next.ensures.shape ∙ skip.shape ∙ old.left_shape;
      right_shape = old.right_shape;
      left_whole = c.next.ensures.whole ∙ skip.whole ∙ old.left_whole;
      right_whole = old.right_whole;
    }

pub next_of_two-loop-sweep-preserved : goal.next_of_two-loop-sweep-preserved
next_of_two-loop-sweep-preserved g t c =
    let old = c.loop-sweep.invariant in
    let kept = c.in-Right.ensures.steps.1 (node_list g.L.Leaf c.loop-sweep.left)
    (node_list g.L.Leaf c.loop-sweep.right) old.fits in
    let skip = c.skip_right.ensures in
    let told = c.tell-in-Right.ensures.right c.in-Right.ensures.steps.0 (node_list g.L.Leaf c.loop-sweep.left)
    (node_list g.L.Leaf c.skip_right.new.right) (node_list g.L.Leaf c.next-in-Right.new.self)
    (rw c.in-Some-next.is at c.next-in-Right.ensures.takes) skip.fits in
    record {
      left_sound = old.left_sound;
      right_sound = c.next-in-Right.ensures.sound;
      fits = told.0;
      same = old.same ∙ kept.1 ∙ skip.same ∙ told.1;
      left_shape = old.left_shape;
      right_shape = c.next-in-Right.ensures.shape ∙ skip.shape ∙ old.right_shape;
      left_whole = old.left_whole;
      right_whole = c.next-in-Right.ensures.whole ∙ skip.whole ∙ old.right_whole;
    }

pub next_of_two-loop-sweep-preserved-in_default : goal.next_of_two-loop-sweep-preserved-in_default
next_of_two-loop-sweep-preserved-in_default g t c =
    let old = c.loop-sweep.invariant in
    let kept = c.in-Left.ensures.steps.1 (node_list g.L.Leaf c.loop-sweep.left)
    (node_list g.L.Leaf c.loop-sweep.right) old.fits in
    let skip = c.skip_left.ensures in
    let told = c.tell.ensures.left c.in-Left.ensures.steps.0 (node_list g.L.Leaf c.skip_left.new.left)
    (node_list g.L.Leaf c.next.new.self) (node_list g.L.Leaf c.loop-sweep.right) (rw c.in_default.is at c.next.ensures.takes)
    skip.fits in
    record {
      left_sound = c.next.ensures.sound;
      right_sound = old.right_sound;
      fits = told.0;
      same = old.same ∙ kept.1 ∙ skip.same ∙ told.1;
      left_shape = c.next.ensures.shape ∙ skip.shape ∙ old.left_shape;
      right_shape = old.right_shape;
      left_whole = c.next.ensures.whole ∙ skip.whole ∙ old.left_whole;
      right_whole = old.right_whole;
    }
