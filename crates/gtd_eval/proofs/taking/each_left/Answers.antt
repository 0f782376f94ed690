-- The sweep awaits its left side, so that the first span of that side is the next one of the result, or is told.
use Rattle.std.proofs.Common.{refl}
use Rattle.gtd_spans.specs.Sweeping.{AwaitsLeft}
use Rattle.gtd_eval.specs.Nodes.{node_list}
use Rattle.gtd_eval.proofs.taking.each_left.Goals as goal

pub returns-then-not-gives_left-clause-fits : goal.returns-then-not-gives_left-clause-fits
returns-then-not-gives_left-clause-fits g c =
    let awaits : AwaitsLeft c.loop-left.sweep = rw c.loop-left.invariant.sweep c.requires.awaits in
    let told = c.tell-then-not-gives_left.ensures.left awaits (node_list g.L.Leaf c.each_given_left.new.left)
    (node_list g.L.Leaf c.next.new.self)
    (node_list g.L.Leaf c.args._right.now) (rw c.in-Some.is at c.next.ensures.takes)
    c.each_given_left.ensures.fits in
    told.0

pub take-requires : goal.take-requires
take-requires g c =
    let awaits : AwaitsLeft c.loop-left.sweep = rw c.loop-left.invariant.sweep c.requires.awaits in
    let given = c.if-not-gives_left.ensures.gives refl awaits (node_list g.L.Leaf c.each_given_left.new.left)
    (node_list g.L.Leaf c.next.new.self)
    (node_list g.L.Leaf c.args._right.now) (rw c.in-Some.is at c.next.ensures.takes)
    c.each_given_left.ensures.fits in
    record {
      ready = (_, rw given.1 at (c.loop-left-test.ensures.ready refl));
    }

pub returns-in_default-clause-fits : goal.returns-in_default-clause-fits
returns-in_default-clause-fits g c =
    let awaits : AwaitsLeft c.loop-left.sweep = rw c.loop-left.invariant.sweep c.requires.awaits in
    let told = c.tell.ensures.left awaits (node_list g.L.Leaf c.each_given_left.new.left) (node_list g.L.Leaf c.next.new.self)
    (node_list g.L.Leaf c.args._right.now) (rw c.in_default.is at c.next.ensures.takes)
    c.each_given_left.ensures.fits in
    told.0
