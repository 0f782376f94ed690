-- The picture of the seconds in which a road element is open.
use Rattle.std.specs.Prelude.{ℕ, List, codes}
use Rattle.gtd_records.specs.Closing.{IsOpen, Restriction}
use Rattle.gtd_rows.specs.declared.direction.Direction.{Direction}
use Rattle.gtd_picture.specs.Crowded.{IsSeen}
use Rattle.gtd_picture.specs.Picture.{IsPicture}

-- The picture of the seconds of a year in which the element is open in the direction for the vehicle type.
abbrev pub IsOpenPicture : List Restriction → ℕ → Direction → ℕ → List ℕ → ℕ → List (List ℕ) → Type 0
IsOpenPicture found element direction vehicle title year lines =
    IsPicture (IsOpen found element direction vehicle) title (codes "open") (codes "closed") year lines

-- The same, or no line if it is crowded.
abbrev pub IsOpenSeen : List Restriction → ℕ → Direction → ℕ → List ℕ → ℕ → List (List ℕ) → Type 0
IsOpenSeen found element direction vehicle title year =
    IsSeen (IsOpen found element direction vehicle) year (IsOpenPicture found element direction vehicle title year)
