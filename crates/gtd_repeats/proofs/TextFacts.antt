-- Whether two rows have the same text, and whether directions are among others.
use Rattle.std.proofs.Common.{◌≡◌, ◌∙◌, sym, ap, refl, ◌↔◌, Option, Some, Bool, IsTrue}
use Rattle.gtd_core.specs.Equality.{same_tree}
use Rattle.gtd_core.specs.Parts.{domain_tree}
use Rattle.gtd_core.specs.Trees.{Tree}
use Rattle.gtd_core.specs.declared.domain.Domain.{Domain}
use Rattle.gtd_core.specs.facts.EqualTrees.{equal_same, tree_equal}
use Rattle.gtd_rows.specs.declared.direction.Closed.TheVariants.{One, Both}
use Rattle.gtd_rows.specs.declared.direction.Direction.{Direction}
use Rattle.gtd_rows.specs.declared.direction.Direction.TheVariants.{Positive, Negative}
use Rattle.gtd_repeats.specs.Sameness.{ClosesWithin}

pub text_same : (a b : Domain) (x y : Option Tree) (r : Bool) → x ≡ Some (domain_tree a) → y ≡ Some (domain_tree b)
    → r ≡ same_tree (domain_tree a) (domain_tree b) → IsTrue r ↔ (x ≡ y)
text_same a b x y r e f is =
    rw (e, f) (
      (λ t. ap Some (tree_equal (domain_tree a) (domain_tree b) (sym is ∙ t))),
      (λ s. is ∙ equal_same (domain_tree a) (domain_tree b) cc),
    )

pub both_in_one : (only : Direction) → ClosesWithin Both (One only) → ⊥
both_in_one Positive h = let e : Positive ≡ Negative = h Negative tt in cc
both_in_one Negative h = let e : Negative ≡ Positive = h Positive tt in cc

pub one_in_one : (direction only : Direction) → ClosesWithin (One direction) (One only) ↔ (direction ≡ only)
one_in_one direction only = ((λ h. sym (h direction refl)), (λ e k x. sym e ∙ x))
