-- Past the last row there are no fields, so nothing is shown; at a row its own field is shown.
use Rattle.std.proofs.Common.{refl}
use Rattle.csv.specs.Reading.{default_config, records, strip_bom}
use Rattle.gtd_faults.proofs.RowsFacts.{field_past}
use Rattle.gtd_faults.proofs.places.Rows.field.Goals as goal

pub returns-then-not-self : goal.returns-then-not-self
returns-then-not-self c = record {
  field = λ bytes number stands.
      let none = rw c.if-not-self.true at stands.given in
      rw (field_past number (records default_config (strip_bom bytes)) c.args.index none) refl;
}

pub returns : goal.returns
returns c = record {
  field = λ bytes number stands.
      let here = c.here.ensures.row bytes number stands c.if-not-self.false in
      rw (here.1) at (c.field.ensures.field bytes here.0);
}
