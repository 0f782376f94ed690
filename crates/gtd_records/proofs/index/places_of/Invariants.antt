use Rattle.std.proofs.Common.{◌≡◌, ◌<◌, ℕ, length}
use Rattle.std.specs.Prelude.{slice_index_or}
use Rattle.gtd_places.specs.declared.place.RowPlace.{RowPlace}
use Rattle.gtd_records.specs.Closing.{Restriction}
use Rattle.gtd_records.specs.RowPlaces.{place_of}
use Rattle.gtd_records.proofs.index.places_of.Given as goal

-- the places of the rows so far
abbrev pub invariant-loop-row : goal.invariant-loop-row
invariant-loop-row l = record {
  many : length l.places.items ≡ l.row;
  each : (k : ℕ) (d : RowPlace) (r : Restriction) → k < l.row → slice_index_or l.rows k r ≡ r → slice_index_or l.places.items k d
      ≡ place_of r k;
}
