-- One kind of warnings after another is put to those before.
use Rattle.gtd_hours_warnings.proofs.marks.warnings_with.Goals as goal

pub returns : goal.returns
returns c = record {
  loose = c.in_ok-warnings.warnings.items;
  remarked = c.add_remarks.new.warnings.items;
  marked = c.in_ok-marked.marked.items;
  whole = c.add_whole_days.new.warnings.items;
  hidden = c.add_hides.new.warnings.items;
  are_loose = c.in_ok-warnings.ensures;
  remarks = rw c.as_slice-remarks.ensures.value at c.in_ok-add_remarks.ensures;
  unknowns = rw c.as_slice.ensures.value at c.in_ok-marked.ensures;
  days = c.in_ok-add_whole_days.ensures;
  hides = c.in_ok-add_hides.ensures;
  put = c.in_ok-add_years_if.ensures;
}
