-- All rows taken make the table's records, of which there are no more than allowed; a row that stopped the reading, or
-- one row too many, gives the table's fault.
use Rattle.gtd_records.specs.facts.FileFacts.{few_of}
use Rattle.gtd_records.proofs.TakerFacts.{table_at_fault, table_read, table_too_long}
use Rattle.gtd_records.proofs.file.read_table.Goals as goal

pub returns-in-All-clause-table : goal.returns-in-All-clause-table
returns-in-All-clause-table c =
    table_read _ _ _ c.in_ok-with_capacity.ensures.items (rw c.in-All.is at c.in_ok-take_rows.ensures.taken)

pub returns-in-All-clause-few : goal.returns-in-All-clause-few
returns-in-All-clause-few c = few_of _ _ (returns-in-All-clause-table c)

pub returns-in-Stopped-clause-table : goal.returns-in-Stopped-clause-table
returns-in-Stopped-clause-table c = λ _.
    table_at_fault _ _ _ c.in_ok-with_capacity.ensures.items (rw c.in-Stopped.is at c.in_ok-take_rows.ensures.taken)

pub returns-in-TooMany-clause-table : goal.returns-in-TooMany-clause-table
returns-in-TooMany-clause-table c = λ _.
    table_too_long _ _ _ c.in_ok-with_capacity.ensures.items (rw c.in-TooMany.is at c.in_ok-take_rows.ensures.taken)
