-- The schedule of a record file: when each of its road elements is open, over the days of a horizon and for a vehicle
-- type. The LF is the last byte of each line.
use Rattle.std.specs.Prelude.{◌≡◌, ℕ, List, [], ◌∷◌, codes}
use Rattle.gtd_core.specs.Seconds.{Interval}
use Rattle.gtd_core.specs.declared.horizon.Horizon.{Horizon}
use Rattle.gtd_eval.specs.Membership.{IsNormalOver}
use Rattle.gtd_records.specs.Closing.{IsOpen, Restriction}
use Rattle.gtd_rows.specs.declared.direction.Direction.{Direction}
use Rattle.gtd_report.specs.Putting.{IsByElement}
pub use Rattle.gtd_schedule.specs.Shown.{IsSpanLine}

-- the header line
abbrev pub header_line : List ℕ
header_line = codes "element,direction,vehicle,from,until\n"

-- one line for each span
abbrev pub AreSpanLines : ℕ → Direction → ℕ → List Interval → List (List ℕ) → Type 0
AreSpanLines element direction vehicle [] lines = lines ≡ []
AreSpanLines element direction vehicle (span ∷ spans) lines =
    (line : List ℕ) × (rest : List (List ℕ)) × IsSpanLine element direction vehicle span line
    × AreSpanLines element direction vehicle spans rest × (lines ≡ line ∷ rest)

module _ (found : List Restriction) (vehicle : ℕ) (horizon : Horizon) where
  -- One line for each span of the list that is normal for the open seconds of an element in a direction.
  pub record AreLines (element : ℕ) (direction : Direction) (lines : List (List ℕ)) : Type 0 where
    pub spans : List Interval
    pub normal : IsNormalOver (IsOpen found element direction vehicle) horizon spans
    pub each : AreSpanLines element direction vehicle spans lines

  -- The header, and the lines of each element that the restrictions name, in ascending order and positive before
  -- negative.
  abbrev pub IsSchedule : List (List ℕ) → Type 0
  IsSchedule = IsByElement found (codes "element,direction,vehicle,from,until\n") AreLines
