-- One row more is mended behind the rows that the table holds, and its changes are listed behind theirs.
use Rattle.std.proofs.Common.{refl}
use Rattle.csv.specs.Records.{fields_of}
use Rattle.gtd_mend.proofs.TableFacts.{holds_more}
use Rattle.gtd_mend.proofs.table.Table.add.Goals as goal

pub returns : goal.returns
returns c = record {
  added = λ path separator rows is.
      holds_more path separator rows (record { line = c.args.line; fields = fields_of c.args.row.now })
      (fields_of c.in_ok-mended.mended) c.args.self.now _ is refl refl c.in_ok-mended.ensures.fields c.in_ok-push_row.ensures.text
      (rw c.byte.ensures.value at c.in_ok-push_row-2.ensures.text) c.in_ok-mended.ensures.listed;
}
