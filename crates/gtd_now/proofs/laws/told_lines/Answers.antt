-- The line told of a row is the one on which it begins, since the lines of all rows are listed in their order.
use Rattle.gtd_now.proofs.LineFacts.{line_of_row}
use Rattle.gtd_now.proofs.laws.told_lines.Goals as goal

pub returns : goal.returns
returns c = record { line = line_of_row }
