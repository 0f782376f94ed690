use Rattle.std.proofs.Common.{◌≤◌, ◌+◌, ◌-◌, length}
use Rattle.gtd_changes.proofs.RowFacts.{FoundTo}
use Rattle.gtd_changes.specs.Compared.{rows_in}
use Rattle.gtd_changes.proofs.rows.differing_of.Given as goal

-- each row before the places stands in the other file, or its element is listed
abbrev pub invariant-loop-meeting : goal.invariant-loop-meeting
invariant-loop-meeting l = record {
  at : l.at ≤ length (rows_in l.old);
  next : l.next ≤ length (rows_in l.new);
  old : FoundTo (rows_in l.old) (rows_in l.new) l.at l.elements.items;
  new : FoundTo (rows_in l.new) (rows_in l.old) l.next l.elements.items;
}

abbrev pub decreases-loop-meeting : goal.decreases-loop-meeting
decreases-loop-meeting l = (length (rows_in l.old) - l.at) + (length (rows_in l.new) - l.next)
