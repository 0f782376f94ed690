use Rattle.gtd_conditional_elements.specs.Elements.{AreEach}
use Rattle.gtd_conditional_elements.proofs.elements.rows_of_elements.Given as goal

-- the rows and the faults of the elements so far
abbrev pub invariant-loop-group : goal.invariant-loop-group
invariant-loop-group l = AreEach l.means.rows.items l.yielded l.found.rows.items l.found.faults.items
