-- The row that the reader gave last is the row of the file with this number, at its place in the bytes.
use Rattle.gtd_faults.proofs.places.Rows.here.Goals as goal

pub returns : goal.returns
returns c = record {
  row = λ bytes number stands found.
      let given = rw found at stands.given in (
        record {
          text = stands.text;
          rest = given.0;
          given = rw (stands.at) given.1;
          place = rw (stands.at) stands.place;
        },
        stands.at,
      );
}
