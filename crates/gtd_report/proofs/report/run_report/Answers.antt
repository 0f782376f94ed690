-- The claims at the end of the run are split by whether vehicle type, year, file and element are accepted.
use Rattle.std.proofs.Common.{◌∙◌, sym}
use Rattle.gtd_report.specs.facts.RunFacts.{accepted_are_put, refused_put_nothing, unaccepted_put_nothing, unhindered}
use Rattle.gtd_report.proofs.report.run_report.Goals as goal

pub returns-clause-accepted : goal.returns-clause-accepted
returns-clause-accepted g c = λ vehicle year read wrote.
    let e = c.run.ensures in
    accepted_are_put _ _ c.run.result _ _ _ (λ is. e.vehicle.0 is vehicle) (λ is. (e.year.0 is).1 year)
    (unhindered c.run.result _ _ (sym e.read_faults ∙ read) (sym e.write_faults ∙ wrote)) e.stands

pub returns-clause-refused : goal.returns-clause-refused
returns-clause-refused g c = λ vehicle year read wrote.
    let e = c.run.ensures in
    refused_put_nothing _ _ c.run.result _ _ _ (λ is. e.vehicle.0 is vehicle) (λ is. (e.year.0 is).1 year)
    (unhindered c.run.result _ _ (sym e.read_faults ∙ read) (sym e.write_faults ∙ wrote)) e.stands

pub returns-clause-unnamed : goal.returns-clause-unnamed
returns-clause-unnamed g c = λ vehicle year read wrote.
    let e = c.run.ensures in
    unaccepted_put_nothing _ _ c.run.result _ _ _ (λ is. e.vehicle.0 is vehicle) (λ is. (e.year.0 is).1 year)
    (unhindered c.run.result _ _ (sym e.read_faults ∙ read) (sym e.write_faults ∙ wrote)) e.stands
