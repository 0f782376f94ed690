-- A field of the row that was read is the field of the row with its number in the file.
use Rattle.std.proofs.Common.{sym}
use Rattle.csv.specs.Reading.{default_config, records, strip_bom}
use Rattle.csv.specs.Records.{fields_of}
use Rattle.gtd_faults.proofs.RowsFacts.{field_here}
use Rattle.gtd_faults.proofs.row.Row.field.Goals as goal

pub returns : goal.returns
returns c = record {
  field = λ bytes is.
      let fields = fields_of c.args.self.now.fields.now in
      let text = records default_config (strip_bom bytes) in
      let here = field_here c.args.self.now.number text is.rest fields c.args.index is.given in
      rw (here, sym c.get.ensures.value) c.shown_of.ensures;
}
