-- Where one set has no second alone, in parts of time.
use Rattle.std.proofs.Common.{◌≡◌, ◌↔◌, ◌∙◌, sym, arith, Bool, true, false, not, IsTrue}
use Rattle.std.specs.Prelude.{ℤ, ◌≤ℤ◌, ◌<ℤ◌, ◌+ℤ◌, ◌-ℤ◌, ◌*ℤ◌, pos}
use Rattle.std.proofs.lemmas.Int.{ints}
use Rattle.gtd_core.specs.Limits.{day_seconds}
use Rattle.gtd_core.specs.Equality.{same_tree}
use Rattle.gtd_core.specs.Trees.{Tree}
use Rattle.gtd_core.specs.declared.domain.Domain.{Domain}
use Rattle.gtd_core.specs.facts.EqualTrees.{tree_equal}
use Rattle.gtd_eval.specs.Membership.{InDomain}
use Rattle.gtd_difference.specs.Difference.{EitherGivesYear, HasNoneAlone, IsPart, first_begin, last_end}
use Rattle.gtd_difference.proofs.Ever.{IsRepeating, within-ever}

pub not-both : (b : Bool) → IsTrue (not b) → IsTrue b → ⊥
not-both true h k = let e : false ≡ true = h in cc
not-both false h k = let e : false ≡ true = k in cc

module _ (P Q : ℤ → Type 0) where
  pub narrowed : (early from until late : ℤ) → early ≤ℤ from → until ≤ℤ late → HasNoneAlone P Q early late
      → HasNoneAlone P Q from until
  narrowed early from until late begun ended h t later before =
      h t (omega (arith, ints, later, begun)) (omega (arith, ints, before, ended))

module _ (a b : Domain) where
  -- what the days that two domains without years need to repeat say of all days
  pub of-repeated : (T : Type 0) (from until days : ℤ) → (EitherGivesYear a b → ⊥) → from ≡ first_begin
      → ((from +ℤ ((days *ℤ pos day_seconds) -ℤ pos day_seconds)) <ℤ until) → until ≤ℤ last_end → IsRepeating a b days
      → T ↔ HasNoneAlone (InDomain a) (InDomain b) from until
      → T ↔ HasNoneAlone (InDomain a) (InDomain b) first_begin last_end
  of-repeated T from until days none begins far ends repeating h = (
    (λ x t later before. within-ever a b from until days none far repeating (h.0 x) t),
    (λ k. h.1 (narrowed (InDomain a) (InDomain b) first_begin from until last_end (omega (arith, ints, begins)) ends k)),
  )

-- expressions that `==` finds to be the same
pub equal-part : (a b x y : Tree) (r : Bool) → x ≡ a → y ≡ b → r ≡ same_tree x y → r ≡ true → IsPart a b
equal-part a b x y r e f is told =
    let same : a ≡ b = sym e ∙ tree_equal x y (sym is ∙ told) ∙ f in
    rw same (λ t later before h. h)
