-- The migration's claims about its output hold for the writer, which the output was lent to.
use Rattle.std.proofs.Common.{◌∙◌, rules}
use Rattle.gtd_tool.proofs.ClaimLemmas.{accepted_passed, none_unnamed, of_migration, refused_passed}
use Rattle.gtd_tool.proofs.LoanLemmas.{loan_passes, passed_run}
use Rattle.gtd_tool.proofs.commands.migrate.print.Goals as goal

pub returns : goal.returns
returns g c =
    let e = c.run_migrate.ensures in
    let answer = c.run_migrate.result in
    let pass = loan_passes g.W.Write.contents _ _ _ _ _ _ _ c.new-output.ensures.bytes (search rules) in
    record {
      ran = λ file. record {
        answer = answer;
        outcome = c.outcome.ensures.value;
        accepted = λ vehicle year read wrote.
            let claim = e.claim (e.read_faults ∙ read _) (e.write_faults ∙ wrote _) in
            accepted_passed _ _ _ _ pass _ answer _ _ (of_migration _ _ _ answer claim);
        refused = λ vehicle year read wrote.
            let claim = e.claim (e.read_faults ∙ read _) (e.write_faults ∙ wrote _) in
            refused_passed _ _ _ _ pass _ answer claim.refused;
        unnamed = λ vehicle year read wrote. none_unnamed _ _ _ answer;
        stands = passed_run _ _ _ _ _ _ pass answer _ e.stands;
        vehicle = ((λ is. absurd (e.vehicle is)), (λ out. absurd (out tt)));
        year = ((λ is. absurd (e.year is)), (λ out. absurd (out.1 tt)));
        element = e.element;
        endless = e.endless;
        failures = e.read_faults;
      };
    }
