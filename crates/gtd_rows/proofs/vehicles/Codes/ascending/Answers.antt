-- Sorted and rid of equal neighbours, the codes are the same ones, each once and in ascending order.
use Rattle.std.proofs.Common.{sym, subst, List, ℕ}
use Rattle.std.proofs.lemmas.Result.{IfOk-weaker}
use Rattle.gtd_rows.specs.Columns.{IsSortedSet}
use Rattle.gtd_rows.proofs.SortedSets.{sorted_set}
use Rattle.gtd_rows.proofs.vehicles.Codes.ascending.Goals as goal

pub new-requires : goal.new-requires
new-requires c = record {
  ascending = (sorted_set _ _ _ c.sort_unstable.ensures.permutation c.sort_unstable.ensures.sorted
      c.dedup.ensures.filtered).order;
}

pub returns : goal.returns
returns c =
    let set = sorted_set _ _ _ c.sort_unstable.ensures.permutation c.sort_unstable.ensures.sorted c.dedup.ensures.filtered in
    IfOk-weaker c.new.result _ (λ (kept : List ℕ). IsSortedSet c.args.codes.items kept)
    (λ kept same. subst (λ (codes : List ℕ). IsSortedSet c.args.codes.items codes) (sym same) set) c.new.ensures.codes
