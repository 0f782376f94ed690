-- Sorting by row moves faults, and puts their rows in order.
use Rattle.std.proofs.Common.{rules}
use Rattle.std.proofs.lemmas.List.Sorted.{IsNonDecreasingBy-from_sort_by_key}
use Rattle.gtd_conditional_elements.specs.Faults.{row_number}
use Rattle.gtd_conditional_elements.proofs.elements.sorted.Goals as goal

pub returns-clause-sorted : goal.returns-clause-sorted
returns-clause-sorted c =
    IsNonDecreasingBy-from_sort_by_key row_number _ c.sort_unstable_by_key.ensures.sorted (λ a r q k. search rules)
