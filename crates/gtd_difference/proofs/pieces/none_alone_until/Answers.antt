-- The one expression without the other has no second exactly where the one has none alone.
use Rattle.std.proofs.Common.{◌≡◌, sym, subst}
use Rattle.std.proofs.lemmas.Result.{IfOk-weaker}
use Rattle.gtd_core.specs.Parts.{domain_tree}
use Rattle.gtd_difference.specs.Pieces.{states_tree}
use Rattle.gtd_difference.specs.declared.states.ExprStates.{ExprStates}
use Rattle.gtd_difference.proofs.FixedDates.{none-alone}
use Rattle.gtd_difference.proofs.pieces.none_alone_until.Goals as goal

pub returns-clause-none : goal.returns-clause-none
returns-clause-none c =
    let both = c.in_ok-both.both.value in
    let d = domain_tree c.args.domain.now in
    let o = domain_tree c.args.other.now in
    let held = rw c.expr-expr.ensures.value at c.in_ok-held.ensures.tree in
    let taken = rw c.expr-other_expr.ensures.value at c.in_ok-taken.ensures.tree in
    IfOk-weaker c.none_by_pieces.result _ _ (λ at none.
    none-alone d o (states_tree both.0) (states_tree both.1) c.args.from.0 at.0
    (subst (λ (v : ExprStates × ExprStates). states_tree v.0 ≡ d) (sym c.in_ok-both.ensures.ok) held)
    (subst (λ (v : ExprStates × ExprStates). states_tree v.1 ≡ o) (sym c.in_ok-both.ensures.ok) taken) none)
    c.none_by_pieces.ensures.none
