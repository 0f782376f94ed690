-- The parts so far, and those of the items left at the position, are those of the text.
use Rattle.std.proofs.Common.{◌≡◌, ◌++◌, length}
use Rattle.gtd_hours_holiday_rules.specs.Parts.{parts_from, parts_of}
use Rattle.gtd_hours_holiday_rules.proofs.parts.parts_of.Given as goal

abbrev pub invariant-loop-item : goal.invariant-loop-item
invariant-loop-item l = l.parts.items ++ parts_from l.position l.rest ≡ parts_of l.items

abbrev pub decreases-loop-item : goal.decreases-loop-item
decreases-loop-item l = length l.rest
