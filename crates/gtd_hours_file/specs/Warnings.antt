-- Warnings of rows: of the texts of their hours, and of rows that never close.
use Rattle.std.specs.Prelude.{◌≡◌, ◌↔◌, ◌+◌, ◌++◌, ℕ, ⊤, Bool, true, false, List, [], ◌∷◌, codes, decimal}
use Rattle.std.specs.Prelude.{IfSome, IsTrue, Option, Some, None, Result, Ok, Err}
use Rattle.std.specs.List.{list_any}
use Rattle.gtd_faults.specs.Listing.{line_text}
use Rattle.gtd_faults.specs.Places.{IsLine}
use Rattle.gtd_faults.specs.Printable.{printable}
use Rattle.gtd_hours.specs.declared.hours.Hours.{Hours}
use Rattle.gtd_hours.specs.declared.hours.Modifier.{Modifier}
use Rattle.gtd_hours.specs.declared.hours.Modifier.TheVariants.{Open, Closed}
use Rattle.gtd_hours.specs.declared.hours.Rule.{Rule}
use Rattle.gtd_hours_warnings.specs.Lines.{warning_lines}
use Rattle.gtd_hours_warnings.specs.Marks.{AreWarningsWith}
use Rattle.gtd_hours_warnings.specs.declared.warnings.Warning.{Warning}
use Rattle.gtd_hours_options.specs.Readings.{HowRead}
use Rattle.gtd_hours_file.specs.HoursFile.{IsHoursFile}
use Rattle.gtd_hours_file.specs.declared.row.HoursRow.{HoursRow}
use Rattle.gtd_hours_file.specs.declared.row.RowHours.{RowHours}
use Rattle.gtd_hours_file.specs.declared.translated.Translated.{Translated}
use Rattle.gtd_hours_file.specs.declared.untranslated.Untranslated.{Untranslated}

-- ---- rows that never close

-- a rule opens if it does not say that the hours are closed
abbrev pub opens : Modifier → Bool
opens Open = true
opens Closed = false

-- some rule of the hours opens
abbrev pub some_opens : Hours → Bool
some_opens hours = list_any (λ (rule : Rule). opens rule.modifier) hours.rules.items

-- The row never closes: no rule of its hours opens. A row without hours closes always.
abbrev pub ClosesNever : Option RowHours → Type 0
ClosesNever None = ⊥
ClosesNever (Some given) = some_opens given.read.hours ≡ false

-- what is said of such a row
abbrev pub never_text : ℕ → List ℕ
never_text row = codes "row " ++ decimal row ++ codes ": warning: never-holds: the hours are open at no second"

-- the line of a row with this number that begins on this line of a file; none if the row may close
abbrev pub never_line : Bool → List ℕ → ℕ → ℕ → List ℕ
never_line true path line row = line_text path line (never_text row)
never_line false path line row = []

-- ---- warnings of texts

-- what stands before a warning of the hours of a row
abbrev pub before_warning : List ℕ → ℕ → ℕ → List ℕ
before_warning path line row =
    printable path ++ (codes ":" ++ (decimal line ++ (codes ": row " ++ (decimal row ++ codes ": warning Hours "))))

-- the warnings of a row's hours; a row without hours has none
abbrev pub AreHoursWarnings : Option RowHours → List Warning → Type 0
AreHoursWarnings None found = found ≡ []
AreHoursWarnings (Some given) found = AreWarningsWith given.text.items given.read given.years found

-- ---- all

-- The lines of a row with this number that begins on this line of a file: the warnings of its hours, and then that it never
-- closes.
pub record AreRowLines (path : List ℕ) (line number : ℕ) (row : HoursRow) (text : List ℕ) : Type 0 where
  pub found : List Warning
  pub never : Bool
  pub are : AreHoursWarnings row.hours found
  pub closes : IsTrue never ↔ ClosesNever row.hours
  pub told : text ≡ warning_lines (before_warning path line number) found ++ never_line never path line number

-- the lines of rows, in order, if the first has this number
abbrev pub AreWarnings : List ℕ → List ℕ → ℕ → List HoursRow → List ℕ → Type 0
AreWarnings path bytes number [] text = text ≡ []
AreWarnings path bytes number (row ∷ rows) text =
    (line : ℕ) × (here : List ℕ) × (after : List ℕ)
    × IsLine bytes number line × AreRowLines path line number row here
    × AreWarnings path bytes (number + 1) rows after × (text ≡ here ++ after)

-- The bytes are a file of hours that is read so, and these are the warnings of its rows.
abbrev pub AreWarningsOf : HowRead → List ℕ → List ℕ → List ℕ → Type 0
AreWarningsOf how path bytes text = (rows : List HoursRow) × IsHoursFile how bytes (Ok rows) × AreWarnings path bytes 1 rows text

-- what the answer warns of
abbrev pub IsWarned : HowRead → List ℕ → Option (List ℕ) → Result Translated Untranslated → Type 0
IsWarned how path file (Ok done) = IfSome file (λ bytes. AreWarningsOf how path bytes done.warnings.items)
IsWarned how path file (Err why) = ⊤

-- the number of lines that is answered, or why there is none
abbrev pub lines_of : Result Translated Untranslated → Result ℕ Untranslated
lines_of (Ok done) = Ok done.lines
lines_of (Err why) = Err why
