-- The three claims of the run are one; and the number of lines is the number of days of the year.
use Rattle.std.proofs.Common.{◌∙◌, pos}
use Rattle.std.proofs.lemmas.Result.{IfOk-weaker}
use Rattle.gtd_calendar.specs.Calendar.{first_day, year_length}
use Rattle.gtd_records.specs.Closing.{IsOpen}
use Rattle.gtd_year.proofs.ClaimFacts.{year_claim}
use Rattle.gtd_year.proofs.DayFacts.{length-days}
use Rattle.gtd_year.proofs.run.run_year.Goals as goal

pub returns-clause-claim : goal.returns-clause-claim
returns-clause-claim g c = λ vehicle year read wrote.
    let e = c.run_report.ensures in
    year_claim _ _ _ _ _ _ _ _ (e.accepted vehicle year read wrote) (e.refused vehicle year read wrote)
    (e.unnamed vehicle year read wrote)

pub returns-clause-days : goal.returns-clause-days
returns-clause-days g c =
    let a = c.args in
    let y = pos a.year in
    IfOk-weaker c.run_report.result _ _ (λ count is.
    is.3 ∙ (length-days (IsOpen is.0 a.element a.direction a.vehicle) (first_day y) (year_length y) is.1 is.2).0)
    c.run_report.ensures.lines
