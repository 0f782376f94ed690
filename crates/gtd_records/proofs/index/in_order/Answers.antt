-- Sorted and rid of equal neighbours, the numbers are the same ones, each once and in ascending order.
use Rattle.gtd_rows.proofs.SortedSets.{sorted_set}
use Rattle.gtd_records.proofs.index.in_order.Goals as goal

pub returns : goal.returns
returns c = sorted_set _ _ _ c.sort_unstable.ensures.permutation c.sort_unstable.ensures.sorted c.dedup.ensures.filtered
