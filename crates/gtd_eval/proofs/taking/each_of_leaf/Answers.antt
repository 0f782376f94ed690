-- What a leaf hands on are first spans of its list.
use Rattle.gtd_eval.proofs.WithinFacts.{some-first}
use Rattle.gtd_eval.proofs.taking.each_of_leaf.Goals as goal

pub returns-in-Leaf-clause-takes : goal.returns-in-Leaf-clause-takes
returns-in-Leaf-clause-takes g c =
    let w = c.each_within.ensures.takes in
    rw (c.in-Leaf.is, ← c.deref_mut.ensures.value) (some-first g.T.SpanTaker.takes
    (g.L.Leaf.leaf_list c.deref_mut.result.now) w.first (g.L.Leaf.leaf_list c.each_within.new.self) c.args.into.now
    c.each_within.new.into c.args.taker.now c.each_within.new.taker c.each_within.result w.split w.hands_on)
