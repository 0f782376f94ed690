-- The claims of a run that puts the table of a year, as one.
use Rattle.std.specs.Prelude.{ℕ, List, Option, Some, None, Result}
use Rattle.gtd_rows.specs.declared.direction.Direction.{Direction}
use Rattle.gtd_report.specs.Run.{AcceptedFilesArePut, RefusedFilesPutNothing, UnacceptedFilesPutNothing}
use Rattle.gtd_report.specs.declared.fault.RunFault.{RunFault}
use Rattle.gtd_year.specs.YearTable.{IsYearTable}
use Rattle.gtd_year.specs.Theorem.{IsNamed, YearClaim}

pub year_claim : (element : ℕ) (direction : Direction) (vehicle year : ℕ)
    (file before after : Option (List ℕ)) (answer : Result ℕ RunFault)
    → AcceptedFilesArePut (IsNamed element) (λ found lines. IsYearTable found element direction vehicle year lines)
    file before after answer
    → RefusedFilesPutNothing file before after answer
    → UnacceptedFilesPutNothing (IsNamed element) file before after answer
    → YearClaim element direction vehicle year file before after answer
year_claim element direction vehicle year None before after answer accepted refused unnamed =
    record { accepted = accepted; unnamed = unnamed; refused = refused }
year_claim element direction vehicle year (Some bytes) before after answer accepted refused unnamed =
    record { accepted = accepted; unnamed = unnamed; refused = refused }
