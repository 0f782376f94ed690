-- The intervals of two ranges of elements, one range after the other, are those of the files that were cut.
use Rattle.gtd_changes.proofs.RangeFacts.{changes_of_two}
use Rattle.gtd_changes.proofs.laws.changes_of_ranges.Goals as goal

pub returns : goal.returns
returns c = record {
  two = λ old new old_low old_high new_low new_high k vehicle horizon a b olds news split cut p q.
      changes_of_two old new old_low old_high new_low new_high k vehicle horizon olds news split cut a b p q;
}
