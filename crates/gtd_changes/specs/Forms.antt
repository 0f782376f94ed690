-- The text of what two record files say differently, in each form.
use Rattle.std.specs.Prelude.{◌++◌, ℕ, Bool, true, false, List}
use Rattle.gtd_core.specs.declared.horizon.Horizon.{Horizon}
use Rattle.gtd_records.specs.Closing.{Restriction}
use Rattle.gtd_rows.specs.declared.direction.Direction.{Direction}
use Rattle.gtd_report.specs.Putting.{IsByElement}
use Rattle.gtd_changes.specs.Changes.{AreLines, header_line}
use Rattle.gtd_changes.specs.Rows.{AreRowsLines, rows_header}
use Rattle.gtd_changes.specs.Summary.{AreSummaryLines, summary_header}
use Rattle.gtd_changes.specs.declared.form.Form.{Form}
use Rattle.gtd_changes.specs.declared.form.Form.TheVariants.{Intervals, Rows, Summary}

-- changes with the rows that close the element, or without them
abbrev pub form_with : Bool → Form
form_with true = Rows
form_with false = Intervals

-- the header line
abbrev pub header_in : Form → List ℕ
header_in Intervals = header_line
header_in Rows = rows_header
header_in Summary = summary_header

-- the lines of an element in a direction
abbrev pub AreLinesIn : Form → List Restriction → List Restriction → ℕ → Horizon → ℕ → Direction → List (List ℕ) → Type 0
AreLinesIn Intervals old new vehicle horizon = AreLines old new vehicle horizon
AreLinesIn Rows old new vehicle horizon = AreRowsLines old new vehicle horizon
AreLinesIn Summary old new vehicle horizon = AreSummaryLines old new vehicle horizon

-- The header, and the lines of each element that a restriction of either file names, in ascending order and positive before
-- negative.
abbrev pub IsTextIn : Form → List Restriction → List Restriction → ℕ → Horizon → List (List ℕ) → Type 0
IsTextIn form old new vehicle horizon = IsByElement (old ++ new) (header_in form) (AreLinesIn form old new vehicle horizon)
