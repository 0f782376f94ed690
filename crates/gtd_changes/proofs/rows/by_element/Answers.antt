-- Sorting only moves the records: what stands in the file stands in the sorted list, as often.
use Rattle.std.proofs.Common.{map, subst, List}
use Rattle.std.specs.List.Sorted.{IsPermutation}
use Rattle.std.proofs.lemmas.List.Sorted.{IsPermutation-map}
use Rattle.gtd_records.specs.Closing.{Restriction}
use Rattle.gtd_changes.proofs.rows.by_element.Goals as goal

pub returns : goal.returns
returns c = record {
  moved = subst (λ (xs : List Restriction). IsPermutation xs (map (λ row. row.now) c.sort_by_key.new.self.items))
      c.in_ok-refs.ensures.same (IsPermutation-map (λ row. row.now) _ _ c.sort_by_key.ensures.permutation);
}
