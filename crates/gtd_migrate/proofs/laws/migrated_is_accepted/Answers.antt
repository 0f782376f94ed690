-- The migrated file reads again as the same restrictions, and none of its fields needs quotes.
use Rattle.gtd_migrate.proofs.MigrateFacts.{file_unquoted, migrated_is_file, rows_are_file}
use Rattle.gtd_migrate.proofs.laws.migrated_is_accepted.Goals as goal

pub returns : goal.returns
returns c = record { accepted = migrated_is_file; unquoted = file_unquoted; rows = rows_are_file }
