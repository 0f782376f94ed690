-- If there is a row, what is shown of it is shown of the row of the file with that number.
use Rattle.gtd_faults.proofs.places.Rows.row.Goals as goal

pub returns : goal.returns
returns c = record {
  row = λ bytes number stands.
      let here = c.here.ensures.row bytes number stands c.if-not-self.false in
      rw (here.1) at (c.whole.ensures.whole bytes here.0);
}
