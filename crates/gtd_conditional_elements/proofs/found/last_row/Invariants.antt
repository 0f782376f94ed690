use Rattle.std.proofs.Common.{◌≡◌, length}
use Rattle.gtd_conditional_elements.specs.Elements.{last_row}
use Rattle.gtd_conditional_elements.proofs.found.last_row.Given as goal

-- the row of the last tag is that of the last one left, or else the last so far
abbrev pub invariant-loop-tag : goal.invariant-loop-tag
invariant-loop-tag l = last_row l.row l.rest ≡ last_row 0 l.read

abbrev pub decreases-loop-tag : goal.decreases-loop-tag
decreases-loop-tag l = length l.rest
