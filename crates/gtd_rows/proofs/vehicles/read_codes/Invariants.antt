use Rattle.std.proofs.Common.{◌≡◌, length, drop}
use Rattle.gtd_rows.proofs.ListFacts.{and_codes}
use Rattle.gtd_rows.specs.Columns.{codes_of, items_of}
use Rattle.gtd_rows.proofs.vehicles.read_codes.Given as goal

-- the codes of the items so far
abbrev pub invariant-loop-item : goal.invariant-loop-item
invariant-loop-item l = record {
  next : (goal.iterator-loop-item).can_next l.item-iterator;
  finite : (goal.iterator-loop-item).is_finite l.item-iterator;
  codes : codes_of (items_of l.text) ≡ and_codes l.codes.items (codes_of (drop (length l.yielded) (items_of l.text)));
}
