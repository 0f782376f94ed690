-- The fourth field of the row that was read is the domain of the file's row, of which the part is shown.
use Rattle.std.proofs.Common.{sym}
use Rattle.csv.specs.Reading.{default_config, records, strip_bom}
use Rattle.csv.specs.Records.{fields_of}
use Rattle.gtd_faults.proofs.RowsFacts.{field_here}
use Rattle.gtd_faults.proofs.row.Row.part.Goals as goal

pub returns : goal.returns
returns c = record {
  part = λ bytes is.
      let fields = fields_of c.args.self.now.fields.now in
      let text = records default_config (strip_bom bytes) in
      let here = field_here c.args.self.now.number text is.rest fields 3 is.given in
      rw (here, sym c.get.ensures.value) c.part_of.ensures;
}
