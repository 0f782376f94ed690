-- The claims of a run that puts a schedule are the headline.
use Rattle.std.specs.Prelude.{ℕ, List, Option, Some, None, Result, ⊤}
use Rattle.gtd_core.specs.declared.horizon.Horizon.{Horizon}
use Rattle.gtd_report.specs.Run.{AcceptedFilesArePut, RefusedFilesPutNothing}
use Rattle.gtd_report.specs.declared.fault.RunFault.{RunFault}
use Rattle.gtd_schedule.specs.Schedule.{IsSchedule}
use Rattle.gtd_schedule.specs.Theorem.{Headline}
use Rattle.gtd_schedule.specs.facts.ShownFacts.{puts-schedule}

pub headline : (vehicle : ℕ) (horizon : Horizon) (file before after : Option (List ℕ)) (answer : Result ℕ RunFault)
    → AcceptedFilesArePut (λ found. ⊤) (λ found lines. IsSchedule found vehicle horizon lines) file before after answer
    → RefusedFilesPutNothing file before after answer
    → Headline vehicle horizon file before after answer
headline vehicle horizon None before after answer accepted refused = record { accepted = λ had. tt; refused = refused }
headline vehicle horizon (Some bytes) before after answer accepted refused = record {
  accepted = λ had found file.
      (puts-schedule found vehicle horizon before after answer).1 (accepted had found file tt);
  refused = refused;
}
