-- First spans of the left side that lie inside of the bounds are the first ones of the result.
use Rattle.gtd_spans.specs.Sweeping.{Fits}
use Rattle.gtd_eval.specs.Nodes.{node_list}
use Rattle.gtd_eval.proofs.WithinFacts.{left-given, left-ready}
use Rattle.gtd_eval.proofs.taking.each_given_left.Goals as goal

pub each_within-requires : goal.each_within-requires
each_within-requires g c =
    let fits : Fits c.args.sweep.now (g.L.Leaf.leaf_list c.deref_mut.result.now) (node_list g.L.Leaf c.args._right.now) =
    rw c.deref_mut.ensures.value (rw c.in-Leaf.is at c.requires.fits) in
    record {
      ready = left-ready g.T.SpanTaker.is_ready c.args.sweep.now c.in-Some.bounds (g.L.Leaf.leaf_list c.deref_mut.result.now)
          (node_list g.L.Leaf c.args._right.now)
          c.args.into.now c.args.taker.now (c.in-Some.ensures.gives c.requires.awaits) fits
          (rw c.deref_mut.ensures.value (rw c.in-Leaf.is at c.requires.ready));
    }

pub returns-in-Some-clause-fits : goal.returns-in-Some-clause-fits
returns-in-Some-clause-fits g c =
    let fits : Fits c.args.sweep.now (g.L.Leaf.leaf_list c.deref_mut.result.now) (node_list g.L.Leaf c.args._right.now) =
    rw c.deref_mut.ensures.value (rw c.in-Leaf.is at c.requires.fits) in
    (left-given g.T.SpanTaker.is_ready g.T.SpanTaker.takes c.args.sweep.now c.in-Some.bounds
    (g.L.Leaf.leaf_list c.deref_mut.result.now)
    (g.L.Leaf.leaf_list c.each_within.new.self) (node_list g.L.Leaf c.args._right.now)
    c.args.into.now c.each_within.new.into c.args.taker.now c.each_within.new.taker c.each_within.result
    (c.in-Some.ensures.gives c.requires.awaits) fits c.each_within.ensures.takes).0

pub returns-in-Some-clause-takes : goal.returns-in-Some-clause-takes
returns-in-Some-clause-takes g c =
    let fits : Fits c.args.sweep.now (g.L.Leaf.leaf_list c.deref_mut.result.now) (node_list g.L.Leaf c.args._right.now) =
    rw c.deref_mut.ensures.value (rw c.in-Leaf.is at c.requires.fits) in
    rw (c.in-Leaf.is, ← c.deref_mut.ensures.value)
    (left-given g.T.SpanTaker.is_ready g.T.SpanTaker.takes c.args.sweep.now c.in-Some.bounds
    (g.L.Leaf.leaf_list c.deref_mut.result.now)
    (g.L.Leaf.leaf_list c.each_within.new.self) (node_list g.L.Leaf c.args._right.now)
    c.args.into.now c.each_within.new.into c.args.taker.now c.each_within.new.taker c.each_within.result
    (c.in-Some.ensures.gives c.requires.awaits) fits c.each_within.ensures.takes).1

pub returns-in-Some-clause-ready : goal.returns-in-Some-clause-ready
returns-in-Some-clause-ready g c = λ yes.
    let fits : Fits c.args.sweep.now (g.L.Leaf.leaf_list c.deref_mut.result.now) (node_list g.L.Leaf c.args._right.now) =
    rw c.deref_mut.ensures.value (rw c.in-Leaf.is at c.requires.fits) in
    (left-given g.T.SpanTaker.is_ready g.T.SpanTaker.takes c.args.sweep.now c.in-Some.bounds
    (g.L.Leaf.leaf_list c.deref_mut.result.now)
    (g.L.Leaf.leaf_list c.each_within.new.self) (node_list g.L.Leaf c.args._right.now)
    c.args.into.now c.each_within.new.into c.args.taker.now c.each_within.new.taker c.each_within.result
    (c.in-Some.ensures.gives c.requires.awaits) fits c.each_within.ensures.takes).2 yes (rw c.deref_mut.ensures.value
    (rw c.in-Leaf.is at c.requires.ready))

pub returns-in-Some-clause-no_more : goal.returns-in-Some-clause-no_more
returns-in-Some-clause-no_more g c =
    let fits : Fits c.args.sweep.now (g.L.Leaf.leaf_list c.deref_mut.result.now) (node_list g.L.Leaf c.args._right.now) =
    rw c.deref_mut.ensures.value (rw c.in-Leaf.is at c.requires.fits) in
    rw (c.in-Leaf.is, ← c.deref_mut.ensures.value)
    (left-given g.T.SpanTaker.is_ready g.T.SpanTaker.takes c.args.sweep.now c.in-Some.bounds
    (g.L.Leaf.leaf_list c.deref_mut.result.now)
    (g.L.Leaf.leaf_list c.each_within.new.self) (node_list g.L.Leaf c.args._right.now)
    c.args.into.now c.each_within.new.into c.args.taker.now c.each_within.new.taker c.each_within.result
    (c.in-Some.ensures.gives c.requires.awaits) fits c.each_within.ensures.takes).3
