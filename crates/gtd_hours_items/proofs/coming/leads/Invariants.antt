-- Whether a holiday leads is the same by the items left, behind a comma or not, as by all.
use Rattle.std.proofs.Common.{◌≡◌, length, false}
use Rattle.gtd_hours_items.specs.Coming.{leads}
use Rattle.gtd_hours_items.proofs.coming.leads.Given as goal

abbrev pub invariant-loop-item : goal.invariant-loop-item
invariant-loop-item l = leads l.by_comma l.rest ≡ leads false l.items

abbrev pub decreases-loop-item : goal.decreases-loop-item
decreases-loop-item l = length l.rest
