-- All bytes that came are few enough, so the answer for their table is that for the file.
use Rattle.gtd_records.proofs.ReadFacts.{of_table}
use Rattle.gtd_records.proofs.reader.read_rows.Goals as goal

pub returns-clause-file : goal.returns-clause-file
returns-clause-file g c =
    of_table (λ rows. rows.items) c.in_ok-bytes.bytes.items _ c.read_table.result c.in_ok-bytes.ensures.few c.in_ok-bytes.ensures.whole
    (rw c.as_slice.ensures.value at c.read_table.ensures.table)
