use Rattle.std.proofs.Common.{◌≡◌, sym, subst, List}
use Rattle.std.specs.Prelude.{◌↔◌}
use Rattle.gtd_roads.specs.Closing.{Restriction}
use Rattle.gtd_roads.specs.Schedule.{IsSchedule}
use Rattle.gtd_roads.specs.YearTable.{IsYearTable}
use Rattle.gtd_tool.proofs.laws.migrated_files_mean_the_same.Goals as goal

-- what is said of one list is said of the other, where they are one
either : (P : List Restriction → Type 0) (a b : List Restriction) → a ≡ b → P a ↔ P b
either P a b e = (subst P e, subst P (sym e))

pub returns-clause-schedule : goal.returns-clause-schedule
returns-clause-schedule c bytes found again file migrated_file vehicle horizon lines =
    either (λ (f : List Restriction). IsSchedule f vehicle horizon lines) again found
    (c.migration_changes_nothing.ensures.restrictions bytes found again file migrated_file)

pub returns-clause-table : goal.returns-clause-table
returns-clause-table c bytes found again file migrated_file element direction vehicle year lines =
    either (λ (f : List Restriction). IsYearTable f element direction vehicle year lines) again found
    (c.migration_changes_nothing.ensures.restrictions bytes found again file migrated_file)
