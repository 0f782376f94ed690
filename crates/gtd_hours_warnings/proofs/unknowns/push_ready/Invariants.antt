-- The warnings so far are by the latest place; what the places left add to these, all places add to those before.
use Rattle.std.proofs.Common.{◌++◌, List, length}
use Rattle.gtd_hours_warnings.specs.Marks.{AddsNotKnown}
use Rattle.gtd_hours_warnings.specs.Unknowns.{AreBy, BeginsAt}
use Rattle.gtd_hours_warnings.specs.declared.warnings.Warning.{Warning}
use Rattle.gtd_hours_warnings.proofs.unknowns.push_ready.Given as goal

abbrev pub invariant-loop-place : goal.invariant-loop-place
invariant-loop-place l = record {
  by : AreBy l.latest l.all.items;
  adds : (more found : List Warning) → BeginsAt l.next more → AddsNotKnown l.rest (l.all.items ++ more) found
      → AddsNotKnown l.left.places.now (l.initial.all.items ++ more) found;
}

abbrev pub decreases-loop-place : goal.decreases-loop-place
decreases-loop-place l = length l.rest
