-- Each column of the table is filled up with spaces to its width, whatever stands in it.
use Rattle.gtd_now.proofs.ColumnFacts.{direction_column, element_column, state_column, until_column}
use Rattle.gtd_now.proofs.laws.columns.Goals as goal

pub returns : goal.returns
returns c = record {
  element = element_column;
  direction = direction_column;
  state = state_column;
  until = until_column;
}
