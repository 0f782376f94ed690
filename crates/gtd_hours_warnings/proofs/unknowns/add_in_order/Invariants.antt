-- What the places left add to the warnings so far is what all places add to those before.
use Rattle.std.proofs.Common.{List, length}
use Rattle.gtd_hours_warnings.specs.Marks.{AddsNotKnown}
use Rattle.gtd_hours_warnings.specs.declared.warnings.Warning.{Warning}
use Rattle.gtd_hours_warnings.proofs.unknowns.add_in_order.Given as goal

abbrev pub invariant-loop-place : goal.invariant-loop-place
invariant-loop-place l =
    (all : List Warning) → AddsNotKnown l.rest l.warnings.items all → AddsNotKnown l.places l.initial.warnings.items all

abbrev pub decreases-loop-place : goal.decreases-loop-place
decreases-loop-place l = length l.rest
