-- What the CSV reader hands out is the first of the records left, and the others are still left.
use Rattle.csv.specs.Records.{fields_of}
use Rattle.gtd_rows.proofs.TableFacts.{takes_first}
use Rattle.gtd_rows.proofs.rows.next_row.Goals as goal

pub returns : goal.returns
returns c = let h = c.in-Ok.ensures in takes_first _ c.args.reader.now c.read_byte_record.new.self c.in-Ok.found
    (fields_of c.read_byte_record.new.row) h.reads h.flexible h.reads_on
