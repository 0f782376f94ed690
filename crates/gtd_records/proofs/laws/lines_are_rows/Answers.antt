-- In an accepted file no field holds a line end, so no quote is open at one; a line without them is one record, and
-- line ends alone are none.
use Rattle.gtd_records.proofs.LineEnds.{no_rows, row_of_line}
use Rattle.gtd_records.proofs.LineParts.{between}
use Rattle.gtd_records.specs.facts.FileForms.{computed_file}
use Rattle.gtd_records.proofs.laws.lines_are_rows.Goals as goal

pub returns : goal.returns
returns c = record {
  between = λ front rest byte found ends file. between byte ends front rest found (computed_file _ _ file);
  row = row_of_line;
  empty = no_rows;
}
