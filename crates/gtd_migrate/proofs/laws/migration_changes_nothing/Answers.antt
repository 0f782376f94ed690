use Rattle.std.proofs.Common.{◌≡◌, ap, sym, subst, List}
use Rattle.std.specs.Prelude.{◌↔◌}
use Rattle.gtd_records.specs.Closing.{AreElements, IsClosed, IsOpen, Restriction}
use Rattle.gtd_migrate.specs.Migrated.{migrated}
use Rattle.gtd_migrate.proofs.MigrateFacts.{same_restrictions}
use Rattle.gtd_migrate.proofs.laws.migration_changes_nothing.Goals as goal

-- what is said of one list is said of the other, where they are one
either : (P : List Restriction → Type 0) (a b : List Restriction) → a ≡ b → P a ↔ P b
either P a b e = (subst P e, subst P (sym e))

pub returns-clause-restrictions : goal.returns-clause-restrictions
returns-clause-restrictions c = same_restrictions

pub returns-clause-elements : goal.returns-clause-elements
returns-clause-elements c bytes found again file migrated_file elements =
    either (λ (f : List Restriction). AreElements f elements) again found (same_restrictions bytes found again file migrated_file)

pub returns-clause-closed : goal.returns-clause-closed
returns-clause-closed c bytes found again file migrated_file element direction vehicle second =
    either (λ (f : List Restriction). IsClosed f element direction vehicle second) again found
    (same_restrictions bytes found again file migrated_file)

pub returns-clause-opened : goal.returns-clause-opened
returns-clause-opened c bytes found again file migrated_file element direction vehicle second =
    either (λ (f : List Restriction). IsOpen f element direction vehicle second) again found
    (same_restrictions bytes found again file migrated_file)

pub returns-clause-itself : goal.returns-clause-itself
returns-clause-itself c bytes found again file migrated_file =
    ap migrated (same_restrictions bytes found again file migrated_file)
