-- Nothing is listed of an accepted file only; the first line names the fault for which a file is refused.
use Rattle.gtd_faults.proofs.ListFacts.{first_line, nothing_listed, rows_listed}
use Rattle.gtd_faults.proofs.laws.listed_lines.Goals as goal

pub returns : goal.returns
returns c =
    let listed = c.listed_faults.ensures in
    let one = c.one_answer.ensures.one in
    record {
      nothing = nothing_listed listed.accepted listed.first one;
      first = first_line listed.accepted listed.first one;
      rows = rows_listed listed.rows;
    }
