-- A sweep over both nodes that fits, of one node more than the cursors had.
use Rattle.std.proofs.Common.{arith}
use Rattle.gtd_eval.proofs.Unions.{minus-start}
use Rattle.gtd_eval.specs.facts.NodeFacts.{node_list-normal}
use Rattle.gtd_eval.proofs.tree.SweepTree.without.Goals as goal

pub invariant_of-result-clause-sound : goal.invariant_of-result-clause-sound
invariant_of-result-clause-sound g c =
    let normal = node_list-normal g.L.Leaf g.met.L.Leaf.is_normal in
    rw c.in_ok-both.ensures.ok (
      c.new-2.ensures.fits _ _ (normal c.args.cursor.node c.args.cursor.sound)
          (normal c.args.other.node c.args.other.sound),
      c.args.cursor.sound,
      c.args.other.sound,
    )

pub invariant_of-result-clause-small : goal.invariant_of-result-clause-small
invariant_of-result-clause-small g c = rw c.in_ok-both.ensures.ok (omega (arith, c.requires.few))

pub invariant_of-result-clause-still : goal.invariant_of-result-clause-still
invariant_of-result-clause-still g c = λ f.
    let both = c.either_moved-moved.ensures.neither f in
    rw c.in_ok-both.ensures.ok (minus-start c.args.cursor c.args.other _ (c.new-2.ensures.meaning _ _)
    (c.args.cursor.still both.0)
    (c.args.other.still both.1))

pub returns-clause-start : goal.returns-clause-start
returns-clause-start g c = λ s t.
    rw c.in_ok-both.ensures.ok (minus-start c.args.cursor c.args.other _ (c.new-2.ensures.meaning _ _) s t)
