-- The selectors so far, and those of the ones that are left, are all.
use Rattle.std.proofs.Common.{◌≡◌, ◌++◌, length}
use Rattle.gtd_hours_known.specs.Until.{all_until}
use Rattle.gtd_hours_known.proofs.until.all_until.Given as goal

abbrev pub invariant-loop-selector : goal.invariant-loop-selector
invariant-loop-selector l = l.made.items ++ all_until l.known l.left l.rest ≡ all_until l.known l.marks l.selectors

abbrev pub decreases-loop-selector : goal.decreases-loop-selector
decreases-loop-selector l = length l.rest
