-- A sweep over one node that fits, of one node more than the cursor had.
use Rattle.std.proofs.Common.{◌∙◌, arith, ap, List, [], ◌∷◌}
use Rattle.gtd_core.specs.Whole.{whole}
use Rattle.gtd_core.specs.Seconds.{Interval}
use Rattle.gtd_core.specs.declared.domain.Op.TheVariants.{Minus}
use Rattle.gtd_spans.specs.Normal.{combine}
use Rattle.gtd_eval.specs.facts.NodeFacts.{node_list-normal}
use Rattle.gtd_eval.proofs.tree.SweepTree.outside.Goals as goal

pub invariant_of-result-clause-sound : goal.invariant_of-result-clause-sound
invariant_of-result-clause-sound g c =
    let normal = node_list-normal g.L.Leaf g.met.L.Leaf.is_normal c.args.cursor.node c.args.cursor.sound in
    rw c.in_ok-inner.ensures.ok (c.outside.ensures.one_side, c.outside.ensures.fits _ [] normal, c.args.cursor.sound)

pub invariant_of-result-clause-small : goal.invariant_of-result-clause-small
invariant_of-result-clause-small g c = rw c.in_ok-inner.ensures.ok (omega (arith, c.requires.few))

pub invariant_of-result-clause-still : goal.invariant_of-result-clause-still
invariant_of-result-clause-still g c = λ f.
    rw c.in_ok-inner.ensures.ok (c.outside.ensures.meaning _ []
    ∙ ap (λ (ys : List Interval). combine Minus (whole c.args.horizon ∷ []) ys) (c.args.cursor.still f))

pub returns-clause-start : goal.returns-clause-start
returns-clause-start g c = λ s.
    rw c.in_ok-inner.ensures.ok (c.outside.ensures.meaning _ []
    ∙ ap (λ (ys : List Interval). combine Minus (whole c.args.horizon ∷ []) ys) s)
