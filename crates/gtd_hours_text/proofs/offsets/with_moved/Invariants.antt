-- The list has grown by the selectors that were taken, as the offset moves them.
use Rattle.std.proofs.Common.{length}
use Rattle.gtd_hours_text.specs.Adding.{AddsSome}
use Rattle.gtd_hours_text.proofs.offsets.with_moved.Given as goal

abbrev pub invariant-loop-first : goal.invariant-loop-first
invariant-loop-first l = AddsSome l.fn.days l.fn.list.items l.fn.unmoved.items l.rest l.selectors.items

abbrev pub decreases-loop-first : goal.decreases-loop-first
decreases-loop-first l = length l.rest
