-- The claims of a run that migrates a file, as one.
use Rattle.std.specs.Prelude.{◌≡◌, ℕ, List, Option, Some, None, Result, ⊤}
use Rattle.gtd_migrate.specs.Migrated.{migrated}
use Rattle.gtd_migrate.specs.Theorem.{MigrationClaim}
use Rattle.gtd_report.specs.Run.{AcceptedFilesArePut, RefusedFilesPutNothing}
use Rattle.gtd_report.specs.declared.fault.RunFault.{RunFault}

pub migration_claim : (file before after : Option (List ℕ)) (answer : Result ℕ RunFault)
    → AcceptedFilesArePut (λ found. ⊤) (λ found lines. lines ≡ migrated found) file before after answer
    → RefusedFilesPutNothing file before after answer
    → MigrationClaim file before after answer
migration_claim None before after answer accepted refused = record { accepted = accepted; refused = refused }
migration_claim (Some bytes) before after answer accepted refused = record {
  accepted = λ had found file. accepted had found file tt;
  refused = refused;
}
