-- The year table's claims about its output hold for the writer, which the output was lent to.
use Rattle.std.proofs.Common.{◌∙◌, rules}
use Rattle.gtd_tool.proofs.ClaimLemmas.{accepted_passed, refused_passed, unnamed_passed}
use Rattle.gtd_tool.proofs.LoanLemmas.{loan_passes, passed_run}
use Rattle.gtd_tool.proofs.commands.year.print.Goals as goal

pub returns : goal.returns
returns g c =
    let e = c.run_year.ensures in
    let answer = c.run_year.result in
    let pass = loan_passes g.W.Write.contents _ _ _ _ _ _ _ c.new-output.ensures.bytes (search rules) in
    record {
      ran = λ file. record {
        answer = answer;
        outcome = c.outcome.ensures.value;
        accepted = λ vehicle year read wrote.
            let claim = e.claim vehicle year (e.read_faults ∙ read _) (e.write_faults ∙ wrote _) in
            accepted_passed _ _ _ _ pass _ answer _ _ claim.accepted;
        refused = λ vehicle year read wrote.
            let claim = e.claim vehicle year (e.read_faults ∙ read _) (e.write_faults ∙ wrote _) in
            refused_passed _ _ _ _ pass _ answer claim.refused;
        unnamed = λ vehicle year read wrote.
            let claim = e.claim vehicle year (e.read_faults ∙ read _) (e.write_faults ∙ wrote _) in
            unnamed_passed _ _ _ _ pass _ answer _ claim.unnamed;
        stands = passed_run _ _ _ _ _ _ pass answer _ e.stands;
        vehicle = e.vehicle;
        year = e.year;
        element = λ is. tt;
        endless = e.endless;
        failures = e.read_faults;
      };
    }
