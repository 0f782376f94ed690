-- Numbers that are sorted and rid of neighbours that are equal are in strict order, and the same ones as before.
use Rattle.std.proofs.Common.{sym, subst, List, ℕ}
use Rattle.std.specs.List.{Contains}
use Rattle.std.specs.List.Sorted.{IsSorted}
use Rattle.std.specs.Ordering.{nat_cmp}
use Rattle.std.proofs.lemmas.List.Filters.{dedup_is}
use Rattle.std.proofs.lemmas.List.Kept.{Contains-dedup_nat, Contains-from_dedup}
use Rattle.std.proofs.lemmas.Map.Keys.{IsStrictlyIncreasing-dedup}
use Rattle.gtd_places.specs.facts.PlaceFacts.{sorted_numbers}
use Rattle.gtd_places.proofs.order.elements_of.Goals as goal

pub returns : goal.returns
returns c =
    let is = dedup_is _ _ _ c.dedup.ensures.filtered in
    let numbers = c.in_ok-elements.ensures in
    record {
      ascending = rw is (IsStrictlyIncreasing-dedup _ (subst (IsSorted nat_cmp) (sym numbers)
          (sorted_numbers c.args.places.now c.requires)));
      same = λ x. (
        (λ h. subst (λ (xs : List ℕ). Contains xs x) numbers (Contains-from_dedup _ _ x (rw is at h))),
        (λ h. rw is (Contains-dedup_nat _ x (subst (λ (xs : List ℕ). Contains xs x) (sym numbers) h))),
      );
    }
