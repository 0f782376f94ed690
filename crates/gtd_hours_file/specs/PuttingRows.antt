-- What putting translated rows did.
use Rattle.std.specs.Prelude.{◌≡◌, ◌≤◌, ℕ, List, ◌++◌, Option, Result, Ok, Err, IfSome}
use Rattle.gtd_core.specs.Limits.{most_basic_domains}
use Rattle.gtd_migrate.specs.Migrated.{row_line}
use Rattle.gtd_hours.specs.Cost.{hours_cost}
use Rattle.gtd_records.specs.Closing.{Restriction}
use Rattle.gtd_report.specs.Putting.{Puts}
use Rattle.gtd_report.specs.declared.output.Progress.{Progress}
use Rattle.gtd_report.specs.declared.output.Stop.{Stop}
use Rattle.gtd_report.specs.declared.output.Stop.TheVariants.{Output, Memory}
use Rattle.gtd_hours_file.specs.Translated.{IsTranslated, IsTranslation}
use Rattle.gtd_hours_file.specs.declared.row.HoursRow.{HoursRow}
use Rattle.gtd_hours_file.specs.declared.untranslated.Untranslated.{Untranslated}
use Rattle.gtd_hours_file.specs.declared.untranslated.Untranslated.TheVariants as why

-- the hours of the row, if it has some, take few enough basic domains
abbrev pub IsWithin : HoursRow → Type 0
IsWithin row = IfSome row.hours (λ given. hours_cost given.read.hours ≤ most_basic_domains)

-- the line of a restriction that the row is translated to
abbrev pub IsLineOf : HoursRow → List ℕ → Type 0
IsLineOf row line = (r : Restriction) × IsTranslated row r × (line ≡ row_line r)

-- The rows were translated and their lines put; or first ones of them, and a first part of their lines.
abbrev pub PutsRows : (List Restriction → List (List ℕ)) → Result (Unit {0}) Stop → Option (List ℕ) → Option (List ℕ)
    → Progress → Progress → List HoursRow → Type 0
PutsRows lines (Ok done) old new before after rows =
    (found : List Restriction) × IsTranslation rows found × Puts (Ok done) old new before after (lines found)
PutsRows lines (Err stop) old new before after rows =
    (first : List HoursRow) × (rest : List HoursRow) × (found : List Restriction)
    × (rows ≡ first ++ rest) × IsTranslation first found × Puts (Err stop) old new before after (lines found)

-- the answer of a run that put its text, or that stopped
abbrev pub answer_of : Result (Unit {0}) Stop → Progress → Result ℕ Untranslated
answer_of (Ok done) progress = Ok progress.lines
answer_of (Err Output) progress = Err (why.WriteFault progress.written)
answer_of (Err Memory) progress = Err (why.NoMemory progress.written)
