-- An accepted file is put migrated, and of a refused one nothing is put: both are said as one claim.
use Rattle.gtd_migrate.proofs.ClaimFacts.{migration_claim}
use Rattle.gtd_migrate.proofs.run.run_migrate.Goals as goal

pub returns-clause-claim : goal.returns-clause-claim
returns-clause-claim g c = λ read wrote.
    let e = c.run_report.ensures in
    migration_claim _ _ _ _ (e.accepted tt tt read wrote) (e.refused tt tt read wrote)
