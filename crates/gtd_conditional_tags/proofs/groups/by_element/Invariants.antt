-- The groups so far are those of the items that were added.
use Rattle.gtd_conditional_tags.specs.Groups.{AreGrouped}
use Rattle.gtd_conditional_tags.proofs.groups.by_element.Given as goal

abbrev pub invariant-loop-item : goal.invariant-loop-item
invariant-loop-item g l = AreGrouped l.yielded l.groups
