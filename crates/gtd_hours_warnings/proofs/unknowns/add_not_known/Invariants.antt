-- The warnings so far are by the latest place; what the places left add to these and to those that follow, all places add to all.
use Rattle.std.proofs.Common.{◌≡◌, ◌++◌, List}
use Rattle.gtd_hours_warnings.specs.Marks.{AddsNotKnown}
use Rattle.gtd_hours_warnings.specs.Unknowns.{AreBy}
use Rattle.gtd_hours_warnings.specs.declared.warnings.Warning.{Warning}
use Rattle.gtd_hours_warnings.proofs.unknowns.add_not_known.Given as goal

abbrev pub invariant-loop-warning : goal.invariant-loop-warning
invariant-loop-warning l = record {
  by : AreBy l.left.latest l.all.items;
  adds : (more found : List Warning) → l.yielded ++ more ≡ l.fn.warnings.items
      → AddsNotKnown l.left.places.now (l.all.items ++ more) found → AddsNotKnown l.places l.fn.warnings.items found;
}
