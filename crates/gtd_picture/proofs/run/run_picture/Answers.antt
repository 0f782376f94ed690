-- The text of an accepted file has no lines if it is crowded, and else two more than the year has days.
use Rattle.std.specs.Prelude.{codes}
use Rattle.std.proofs.lemmas.Result.{IfOk-weaker}
use Rattle.gtd_records.specs.Closing.{IsOpen}
use Rattle.gtd_picture.proofs.CrowdFacts.{seen_lines}
use Rattle.gtd_picture.proofs.run.run_picture.Goals as goal

pub returns-clause-lines : goal.returns-clause-lines
returns-clause-lines g c =
    let a = c.args.picture.now in
    IfOk-weaker c.run_report.result _ _ (λ count is.
    seen_lines a.title.now (codes "open") (codes "closed") a.year
    (λ found. IsOpen found a.element a.direction a.vehicle) count is.0 is.1 is.2 is.3)
    c.run_report.ensures.lines
