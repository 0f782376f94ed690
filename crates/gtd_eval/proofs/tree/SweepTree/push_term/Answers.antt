-- The leaf of a whole expression, put behind a list, is its only term.
use Rattle.std.proofs.Common.{refl}
use Rattle.gtd_eval.proofs.Unions.{whole-term}
use Rattle.gtd_eval.proofs.tree.SweepTree.push_term.Goals as goal

pub returns-clause-term : goal.returns-clause-term
returns-clause-term g c = λ pushed.
    let of = rw c.in-Some.is at c.in_ok-leaf.ensures.whole in
    let start = rw c.in-Some.is at c.in_ok-leaf.ensures.start in
    let boxed = c.in_ok-leaf-2.ensures.ok in
    whole-term c.args.op c.args.expr.now c.args.horizon c.args.cursors.now.items c.push.new.self.items _
    c.in_ok-push.ensures.items
    (rw boxed of) (c.if-is_part.ensures.term refl) (rw boxed start)
