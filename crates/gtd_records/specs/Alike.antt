-- When rows with the same domains as those that close one element close another.
use Rattle.std.specs.Prelude.{◌≡◌, ◌<◌, ℕ, List, length, slice_index_or}
use Rattle.gtd_records.specs.Closing.{Concerns, Restriction}
use Rattle.gtd_records.specs.Index.{IsRepeated}
use Rattle.gtd_rows.specs.declared.direction.Direction.{Direction}
use Rattle.gtd_places.specs.declared.place.RowPlace.{RowPlace}

module _ (rows : List Restriction) (part others : List RowPlace) (one other : Direction) (vehicle : ℕ) where
  -- each of the first rows of a part that closes its direction has a row of the others with the same domain, which closes theirs
  abbrev pub AreCovered : ℕ → Type 0
  AreCovered stop =
      (k : ℕ) (d : RowPlace) (r : Restriction) → k < stop → slice_index_or rows (slice_index_or part k d).row r ≡ r
      → Concerns one vehicle r → IsRepeated rows others other vehicle (length others) r.domain
