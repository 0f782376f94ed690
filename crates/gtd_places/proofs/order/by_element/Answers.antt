use Rattle.std.proofs.Common.{◌≡◌, ◌∙◌, ap, subst, arith, rules, List, length}
use Rattle.std.proofs.lemmas.List.Sorted.{IsNonDecreasingBy-from_sort_by_key, IsPermutation-trans}
use Rattle.std.specs.List.Sorted.{IsPermutation}
use Rattle.gtd_places.proofs.SectionFacts.{written_back}
use Rattle.gtd_places.specs.declared.place.RowPlace.{RowPlace}
use Rattle.gtd_places.proofs.order.by_element.Goals as goal

pub returns : goal.returns
returns c =
    let items = c.args.places.items in
    let near = c.spread.new.places in
    let given = c.as_mut_slice.ensures.value in
    let long : length near ≡ length items = c.spread.ensures.long ∙ ap length given in
    let back = written_back items near c.args.places.len long (omega arith) in
    record {
      moved = IsPermutation-trans items near c.sort_unstable_by_key.new.self.items
          (subst (λ (xs : List RowPlace). IsPermutation xs near) given c.spread.ensures.moved)
          (subst (λ (xs : List RowPlace). IsPermutation xs c.sort_unstable_by_key.new.self.items) back
          c.sort_unstable_by_key.ensures.permutation);
      sorted = IsNonDecreasingBy-from_sort_by_key (λ (p : RowPlace). p.element) _ c.sort_unstable_by_key.ensures.sorted
          (λ a r q k. search rules);
      long = search rules;
    }
