-- The record that is read first is the header, at the first place of the text.
use Rattle.std.proofs.Common.{refl}
use Rattle.gtd_faults.proofs.RowsFacts.{given_first}
use Rattle.gtd_faults.proofs.places.Rows.new.Goals as goal

pub returns : goal.returns
returns c = record {
  at = record {
    text = refl;
    at = refl;
    given = given_first _ _ _ c.in_ok-found.found _ c.table-reader.ensures c.in_ok-found.ensures;
    place = c.first.ensures.place;
  };
}
