-- The rows of a file without those that say nothing new.
use Rattle.std.specs.Prelude.{◌+◌, ◌==◌, ◌||◌, ◌↔◌, ℕ, ℤ, Bool, false, List, [], ◌∷◌, if◌then◌else◌}
use Rattle.std.specs.List.{list_any}
use Rattle.gtd_core.specs.Seconds.{IsHorizonSecond}
use Rattle.gtd_records.specs.Closing.{IsClosed, Restriction}
use Rattle.gtd_rows.specs.declared.direction.Direction.{Direction}
use Rattle.gtd_report.specs.Run.{IsVehicleType}
use Rattle.gtd_repeats.specs.declared.findings.Finding.{Finding}
use Rattle.gtd_repeats.specs.declared.findings.Finding.TheVariants.{SameRow, WithinRow, SameMeaning}

-- the finding says that the row with this number is within another
abbrev pub says_within : ℕ → Finding → Bool
says_within number (WithinRow row of) = row == number
says_within number other = false

-- that it is the same as an earlier one
abbrev pub says_same : ℕ → Finding → Bool
says_same number (SameRow row of) = row == number
says_same number other = false

-- either of both
abbrev pub says_either : ℕ → Finding → Bool
says_either number finding = says_within number finding || says_same number finding

-- the rows, of which the first has this number, without those of which a finding says so
abbrev pub without_from : (ℕ → Finding → Bool) → List Finding → ℕ → List Restriction → List Restriction
without_from says findings number [] = []
without_from says findings number (row ∷ rows) =
    if list_any (says number) findings then without_from says findings (number + 1) rows
    else row ∷ without_from says findings (number + 1) rows

-- the rows of a file, which are numbered from 1
abbrev pub without : (ℕ → Finding → Bool) → List Finding → List Restriction → List Restriction
without says findings rows = without_from says findings 1 rows

-- Both close each element in the same directions, for the same vehicle types, at the same seconds from 1901-01-01 to 2699-12-31.
abbrev pub CloseSame : List Restriction → List Restriction → Type 0
CloseSame rows others = (element : ℕ) (direction : Direction) (vehicle : ℕ) (second : ℤ) → IsVehicleType vehicle
    → IsHorizonSecond second → IsClosed rows element direction vehicle second ↔ IsClosed others element direction vehicle second
