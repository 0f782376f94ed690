-- The first row, once mended, is a header or is none, and a text without a row has none.
use Rattle.csv.specs.Records.{fields_of}
use Rattle.gtd_mend.proofs.MendFacts.{header_decided}
use Rattle.gtd_mend.proofs.header.has_header.Goals as goal

pub returns : goal.returns
returns c = record {
  value = header_decided c.args.separator c.args.text.now (fields_of c.read_row.new.row) (fields_of c.in_ok-mended.mended) _ _
      c.is_header.result (rw (c.in-Some.is, c.byte.ensures.value) at c.in_ok-read_row.ensures.row) c.in_ok-mended.ensures.fields
      c.is_header.ensures.value;
}
