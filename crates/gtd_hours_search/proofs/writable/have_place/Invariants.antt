-- The selectors passed are all of the kind, so all are exactly if those left are.
use Rattle.std.proofs.Common.{◌≡◌, length}
use Rattle.gtd_hours_search.specs.Order.{have_place}
use Rattle.gtd_hours_search.proofs.writable.have_place.Given as goal

abbrev pub invariant-loop-selector : goal.invariant-loop-selector
invariant-loop-selector l = have_place l.place l.rest ≡ have_place l.place l.selectors

abbrev pub decreases-loop-selector : goal.decreases-loop-selector
decreases-loop-selector l = length l.rest
