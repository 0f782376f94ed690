-- The list is empty exactly for an accepted file, begins with its first fault and has just the rows at fault; no other
-- list does.
use Rattle.gtd_records.proofs.FaultFacts.{accepted, first_listed}
use Rattle.gtd_records.proofs.ListedFacts.{listed_rows, one_list_of}
use Rattle.gtd_records.specs.facts.FileForms.{computed_file, file_of}
use Rattle.gtd_records.proofs.laws.listed_faults.Goals as goal

pub returns : goal.returns
returns c = record {
  accepted = λ bytes. (
    (λ none. let a = (accepted bytes).0 none in (a.0, file_of bytes _ a.1)),
    (λ a. (accepted bytes).1 (a.0, computed_file bytes _ a.1)),
  );
  first = λ bytes why rest listed. file_of bytes _ (first_listed bytes why rest listed);
  rows = listed_rows;
  one = λ v rows. one_list_of v 1 rows;
}
