-- The sweep awaits its right side, so that the first span of that side is the next one of the result, or is told.
use Rattle.std.proofs.Common.{refl}
use Rattle.gtd_spans.specs.Sweeping.{AwaitsRight}
use Rattle.gtd_eval.specs.Nodes.{node_list}
use Rattle.gtd_eval.proofs.taking.each_right.Goals as goal

pub returns-then-not-gives_right-clause-fits : goal.returns-then-not-gives_right-clause-fits
returns-then-not-gives_right-clause-fits g c =
    let awaits : AwaitsRight c.loop-right.sweep = rw c.loop-right.invariant.sweep c.requires.awaits in
    let told = c.tell-then-not-gives_right.ensures.right awaits (node_list g.L.Leaf c.args._left.now)
    (node_list g.L.Leaf c.each_given_right.new.right) (node_list g.L.Leaf c.next.new.self)
    (rw c.in-Some.is at c.next.ensures.takes)
    c.each_given_right.ensures.fits in
    told.0

pub take-requires : goal.take-requires
take-requires g c =
    let awaits : AwaitsRight c.loop-right.sweep = rw c.loop-right.invariant.sweep c.requires.awaits in
    let given = c.if-not-gives_right.ensures.gives refl awaits (node_list g.L.Leaf c.args._left.now)
    (node_list g.L.Leaf c.each_given_right.new.right) (node_list g.L.Leaf c.next.new.self)
    (rw c.in-Some.is at c.next.ensures.takes)
    c.each_given_right.ensures.fits in
    record {
      ready = (_, rw given.1 at (c.loop-right-test.ensures.ready refl));
    }

pub returns-in_default-clause-fits : goal.returns-in_default-clause-fits
returns-in_default-clause-fits g c =
    let awaits : AwaitsRight c.loop-right.sweep = rw c.loop-right.invariant.sweep c.requires.awaits in
    let told = c.tell.ensures.right awaits (node_list g.L.Leaf c.args._left.now)
    (node_list g.L.Leaf c.each_given_right.new.right) (node_list g.L.Leaf c.next.new.self)
    (rw c.in_default.is at c.next.ensures.takes)
    c.each_given_right.ensures.fits in
    told.0
