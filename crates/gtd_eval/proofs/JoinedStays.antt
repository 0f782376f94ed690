-- How long an expression of two sides stays as it is, by its sides.
use Rattle.std.proofs.Common.{◌≡◌, subst}
use Rattle.std.specs.Prelude.{ℤ, ◌≤ℤ◌}
use Rattle.gtd_core.specs.Trees.{Joined, tree_of}
use Rattle.gtd_core.specs.declared.domain.Expr.{Expr}
use Rattle.gtd_core.specs.declared.domain.Op.{Op}
use Rattle.gtd_eval.specs.Membership.{InTree}
use Rattle.gtd_eval.specs.Stays.{IsJoined, IsStay, NoneChanges}
use Rattle.gtd_eval.specs.declared.stay.Stay.{Stay}
use Rattle.gtd_eval.specs.facts.StayFacts.{at_least, joined_stays}

module _ (op : Op) (l r left right : Expr) (s last : ℤ) (a b stay : Stay) (el : l ≡ left) (er : r ≡ right)
    (joined : IsJoined op a b stay) where
  pub join-stays : IsStay (InTree (tree_of l)) s last a → IsStay (InTree (tree_of r)) s last b
      → IsStay (InTree (Joined op (tree_of left) (tree_of right))) s last stay
  join-stays p q =
      joined_stays op (InTree (tree_of left)) (InTree (tree_of right)) s last a b stay
      (subst (λ (e : Expr). IsStay (InTree (tree_of e)) s last a) el p)
      (subst (λ (e : Expr). IsStay (InTree (tree_of e)) s last b) er q) joined

  pub join-far : ((u : ℤ) → u ≤ℤ last → NoneChanges (tree_of l) s u → u ≤ℤ a.until.0)
      → ((u : ℤ) → u ≤ℤ last → NoneChanges (tree_of r) s u → u ≤ℤ b.until.0)
      → (u : ℤ) → u ≤ℤ last → NoneChanges (Joined op (tree_of left) (tree_of right)) s u → u ≤ℤ stay.until.0
  join-far p q u within none =
      at_least op a b stay u joined
      (subst (λ (e : Expr). NoneChanges (tree_of e) s u → u ≤ℤ a.until.0) el (p u within) none.0)
      (subst (λ (e : Expr). NoneChanges (tree_of e) s u → u ≤ℤ b.until.0) er (q u within) none.1)
