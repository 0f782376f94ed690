-- The run's one claim gives both: an accepted file is put, and of a refused one nothing is put.
use Rattle.std.proofs.Common.{◌∙◌, sym}
use Rattle.gtd_report.specs.facts.RunFacts.{accepted_are_put, refused_put_nothing, unhindered}
use Rattle.gtd_now.proofs.Entries.{read_by_entries, write_by_entries}
use Rattle.gtd_now.proofs.NowFacts.{fault_of}
use Rattle.gtd_now.proofs.run.run_now.Goals as goal

pub returns-clause-accepted : goal.returns-clause-accepted
returns-clause-accepted g c = λ vehicle read wrote.
    let e = c.run.ensures in
    accepted_are_put _ _ _ _ _ _ (λ is. e.vehicle.0 (fault_of c.run.result _ is) vehicle)
    (λ is. e.year (fault_of c.run.result _ is))
    (unhindered _ _ _ (read_by_entries c.run.result _ ∙ sym e.read_faults ∙ read)
    (write_by_entries c.run.result _ ∙ sym e.write_faults ∙ wrote)) e.stands

pub returns-clause-refused : goal.returns-clause-refused
returns-clause-refused g c = λ vehicle read wrote.
    let e = c.run.ensures in
    refused_put_nothing _ _ _ _ _ _ (λ is. e.vehicle.0 (fault_of c.run.result _ is) vehicle)
    (λ is. e.year (fault_of c.run.result _ is))
    (unhindered _ _ _ (read_by_entries c.run.result _ ∙ sym e.read_faults ∙ read)
    (write_by_entries c.run.result _ ∙ sym e.write_faults ∙ wrote)) e.stands
