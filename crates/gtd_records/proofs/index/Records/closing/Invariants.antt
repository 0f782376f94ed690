use Rattle.std.proofs.Common.{◌≤◌, ◌*◌}
use Rattle.gtd_records.proofs.OpenFacts.{AreClosingSoFar}
use Rattle.std.specs.Prelude.{ℤ}
use Rattle.gtd_eval.specs.Cursors.{SomeHolds}
use Rattle.gtd_records.specs.ClosingCursors.{AreAtStart, HasSecond, IsClosedRepeating, RepeatIn, nodes_with_cursors}
use Rattle.gtd_records.proofs.index.Records.closing.Given as goal

-- the cursors of the records so far
abbrev pub invariant-loop-at : goal.invariant-loop-at
invariant-loop-at l = record {
  few : nodes_with_cursors l.cursors ≤ 256 * l.at;
  so_far : AreClosingSoFar l.self-inside.rows.items l.places l.element l.direction l.vehicle l.horizon l.at
      (HasSecond l.cursors);
  repeats : RepeatIn l.horizon l.cursors.period l.cursors.repeating.items;
  again : (t : ℤ) → SomeHolds l.cursors.repeating.items t
      → IsClosedRepeating l.cursors.period l.self-inside.rows.items l.element l.direction l.vehicle t;
  start : AreAtStart l.cursors;
}
