-- That accepted files are put and that nothing is put of refused ones are, together, the headline. The lines of a schedule are
-- said as the headline says them.
use Rattle.gtd_schedule.proofs.HeadlineFacts.{headline}
use Rattle.gtd_schedule.specs.facts.ShownFacts.{runs-schedule}
use Rattle.gtd_schedule.proofs.run.run_schedule.Goals as goal

pub returns-clause-headline : goal.returns-clause-headline
returns-clause-headline g c = λ vehicle read wrote.
    let e = c.run_report.ensures in
    headline _ _ _ _ _ _ (e.accepted vehicle tt read wrote) (e.refused vehicle tt read wrote)

pub returns-clause-stands : goal.returns-clause-stands
returns-clause-stands g c =
    (runs-schedule c.args.vehicle c.args.horizon _ _ _ c.run_report.result).1 c.run_report.ensures.stands
