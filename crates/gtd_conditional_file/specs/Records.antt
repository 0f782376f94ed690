-- The record file of rows of elements.
use Rattle.std.specs.Prelude.{◌≡◌, ℕ, List, [], ◌∷◌, ◌++◌, Option, option_map, Result, Ok, Err}
use Rattle.gtd_core.specs.Parts.{domain_tree}
use Rattle.gtd_migrate.specs.Migrated.{row_line}
use Rattle.gtd_records.specs.Closing.{Restriction}
use Rattle.gtd_report.specs.Putting.{Puts}
use Rattle.gtd_report.specs.declared.output.Progress.{Progress}
use Rattle.gtd_report.specs.declared.output.Stop.{Stop}
use Rattle.gtd_conditional_elements.specs.declared.found.ElementRow.{ElementRow}
use Rattle.gtd_conditional_file.specs.Vehicles.{AreNamed}

-- the restriction has the row's element, directions, vehicle types and domain
pub record IsRestrictionOf (row : ElementRow) (r : Restriction) : Type 0 where
  pub element : r.element ≡ row.element
  pub closed : r.closed ≡ row.row.closed
  pub vehicles : AreNamed row.row.types r.vehicles
  pub domain : r.domain ≡ option_map domain_tree row.row.domain

-- restrictions of rows, one for one
abbrev pub AreRestrictions : List ElementRow → List Restriction → Type 0
AreRestrictions [] found = found ≡ []
AreRestrictions (row ∷ rows) found =
    (first : Restriction) × (rest : List Restriction)
    × IsRestrictionOf row first × AreRestrictions rows rest × (found ≡ first ∷ rest)

-- the line of a restriction of the row
abbrev pub IsLineOf : ElementRow → List ℕ → Type 0
IsLineOf row line = (r : Restriction) × IsRestrictionOf row r × (line ≡ row_line r)

-- The lines of the rows were put; or a first part of the lines of first ones.
abbrev pub PutsRows : (List Restriction → List (List ℕ)) → Result (Unit {0}) Stop → Option (List ℕ) → Option (List ℕ)
    → Progress → Progress → List ElementRow → Type 0
PutsRows lines (Ok done) old new before after rows =
    (found : List Restriction) × AreRestrictions rows found × Puts (Ok done) old new before after (lines found)
PutsRows lines (Err stop) old new before after rows =
    (first : List ElementRow) × (rest : List ElementRow) × (found : List Restriction)
    × (rows ≡ first ++ rest) × AreRestrictions first found × Puts (Err stop) old new before after (lines found)
