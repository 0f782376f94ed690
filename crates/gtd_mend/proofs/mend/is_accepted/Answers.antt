-- A file is accepted exactly if no fault of it is listed, by the list that all its faults make.
use Rattle.gtd_mend.proofs.MendFacts.{decided}
use Rattle.gtd_mend.proofs.mend.is_accepted.Goals as goal

pub returns : goal.returns
returns c =
    let bytes = c.args.bytes.now in
    let listed = c.listed_faults.ensures in
    record {
      value = decided bytes c.in_ok-faults.faults.items c.is_empty.result (rw c.as_slice.ensures.value at c.is_empty.ensures)
          c.in_ok-faults.ensures.file
          (λ are. (listed.accepted bytes).0 are) (listed.first bytes) (c.one_answer.ensures.one bytes);
    }
