-- Each change has one line with rows.
use Rattle.std.proofs.Common.{◌≡◌, ◌∙◌, ap₂, refl, ℕ, List}
use Rattle.std.proofs.Common.{[], ◌∷◌}
use Rattle.std.proofs.Common.{map, Bool, true, false}
use Rattle.gtd_records.specs.Closing.{Restriction}
use Rattle.gtd_records.specs.ClosingRows.{AreClosingRows}
use Rattle.gtd_rows.specs.declared.direction.Direction.{Direction}
use Rattle.gtd_report.specs.facts.SomeClosingRows.{one_rows, some_rows}
use Rattle.gtd_changes.specs.Changes.{change_line, span_of}
use Rattle.gtd_changes.specs.Rows.{AreEach, IsRowsLine, rows_line}
use Rattle.gtd_changes.specs.declared.change.Change.{Change}

module _ (old new : List Restriction) (vehicle : ℕ) (element : ℕ) (direction : Direction) where
  -- the line of a change with all rows that close the element at its first second
  pub full_line : Change → List ℕ
  full_line change =
      rows_line element direction vehicle change (some_rows old element direction vehicle (span_of change).from).0
      (some_rows new element direction vehicle (span_of change).from).0

  -- with these rows or without them
  abbrev pub line_with : Bool → Change → List ℕ
  line_with true change = full_line change
  line_with false change = change_line element direction vehicle change

  -- it is the line that is meant
  pub is_full : (change : Change) → IsRowsLine old new vehicle element direction change (full_line change)
  unfolding full_line
  is_full change =
      let was = some_rows old element direction vehicle (span_of change).from in
      let is = some_rows new element direction vehicle (span_of change).from in
      record { old_rows = was.0; new_rows = is.0; of_old = was.1; of_new = is.1; text = refl }

  -- and the only one
  pub one_full : (change : Change) (old_rows new_rows line : List ℕ)
      → AreClosingRows old element direction vehicle (span_of change).from old_rows
      → AreClosingRows new element direction vehicle (span_of change).from new_rows
      → line ≡ rows_line element direction vehicle change old_rows new_rows → line ≡ full_line change
  unfolding full_line
  one_full change old_rows new_rows line p q is =
      let was = some_rows old element direction vehicle (span_of change).from in
      let now = some_rows new element direction vehicle (span_of change).from in
      is
      ∙ ap₂ (rows_line element direction vehicle change)
      (one_rows old element direction vehicle (span_of change).from old_rows was.0 p was.1)
      (one_rows new element direction vehicle (span_of change).from new_rows now.0 q now.1)

  -- changes have exactly one list of lines
  pub are_full : (changes : List Change) → AreEach old new vehicle element direction changes (map full_line changes)
  are_full [] = refl
  are_full (c ∷ changes) = (full_line c, map full_line changes, is_full c, are_full changes, refl)

  pub one_each : (changes : List Change) (lines : List (List ℕ)) → AreEach old new vehicle element direction changes lines
      → lines ≡ map full_line changes
  one_each [] lines are = are
  one_each (c ∷ changes) lines are =
      let line = one_full c are.2.old_rows are.2.new_rows are.0 are.2.of_old are.2.of_new are.2.text in
      let rest = one_each changes are.1 are.3 in
      are.4 ∙ ap₂ (λ (x : List ℕ) (xs : List (List ℕ)). x ∷ xs) line rest
