-- What is told of a tree is what is told of its leaf, or of the node and then of its two sides in order.
use Rattle.std.proofs.Common.{◌≡◌, refl}
use Rattle.std.proofs.lemmas.Result.{IfOk-weaker}
use Rattle.gtd_core.specs.Parts.{duration_parts, start_parts}
use Rattle.gtd_core.specs.Trees.{Joined, Single, tree_of}
use Rattle.gtd_mistakes.proofs.ToldFacts.{joined_tells, single_tells}
use Rattle.gtd_mistakes.proofs.told.+push_told_of.Goals as goal

pub returns-in-Leaf : goal.returns-in-Leaf
returns-in-Leaf t c =
    let at = c.in_ok-push_told_at.ensures in
    let basic = c.in-Leaf.field-0 in
    let is : tree_of c.args.expr.now ≡ Single (start_parts basic.start) (duration_parts basic.duration) =
    rw c.in-Leaf.is refl in
    single_tells c.args.place.row c.args.off.now c.args.place.whole c.args.place.before (tree_of c.args.expr.now) _ _ at.0 _ _ is
    at.1 at.2

pub returns-in_ok-middle-in-Join : goal.returns-in_ok-middle-in-Join
returns-in_ok-middle-in-Join t c =
    let at = c.in_ok-push_told_at.ensures in
    let first = c.in_ok-middle-in-Join.ensures in
    let is : tree_of c.args.expr.now
    ≡ Joined c.in-Join.field-0 (tree_of c.deref.result.now) (tree_of c.deref-in-Join.result.now) =
    rw (c.in-Join.is, c.deref.ensures, c.deref-in-Join.ensures) refl in
    IfOk-weaker c.push_told_of-in-Join.result _ _
    (λ end second. joined_tells c.args.place.row c.args.off.now c.args.place.whole c.args.place.before
    c.in_ok-middle-in-Join.middle end (tree_of c.args.expr.now) (tree_of c.deref.result.now)
    (tree_of c.deref-in-Join.result.now) c.in-Join.field-0 at.0 _ _ _ _ is at.1 at.2 first second)
    c.push_told_of-in-Join.ensures
