-- What a schedule shows, as the headline says it: for each road element of a record file and each direction, the intervals in
-- which it is open. A law of this crate says that the lines which show it are those of `IsSchedule`.
use Rattle.std.specs.Prelude.{◌≡◌, ◌++◌, ℕ, ℤ, ◌<ℤ◌, ◌≤ℤ◌, List, [], ◌∷◌, codes, decimal}
use Rattle.gtd_core.specs.Seconds.{Interval, Within, day_of_second}
use Rattle.gtd_core.specs.Whole.{whole}
use Rattle.gtd_core.specs.declared.horizon.Horizon.{Horizon}
use Rattle.gtd_calendar.specs.Stamp.{IsDateText, clock_text}
use Rattle.gtd_records.specs.Closing.{AreElements, IsOpen, Restriction}
use Rattle.gtd_rows.specs.declared.direction.Direction.{Direction}
use Rattle.gtd_rows.specs.declared.direction.Direction.TheVariants.{Positive, Negative}
use Rattle.gtd_report.specs.Putting.{direction_word}

-- The list is normal for the set of seconds from one second on: no such second comes before the first interval, which is not
-- empty and holds such seconds alone; none is at its end; and the other intervals are normal from there on.
abbrev pub IsNormalList : (ℤ → Type 0) → ℤ → List Interval → Type 0
IsNormalList set from [] = (t : ℤ) → from ≤ℤ t → set t → ⊥
IsNormalList set from (x ∷ xs) = (from ≤ℤ x.from) × (x.from <ℤ x.until) × ((t : ℤ) → from ≤ℤ t → t <ℤ x.from → set t → ⊥)
    × ((t : ℤ) → Within x t → set t) × (set x.until → ⊥) × IsNormalList set x.until xs

-- These are the lines of the items, one item after the other.
abbrev pub AreInTurn : {A : Type 0} → (A → List (List ℕ) → Type 0) → List A → List (List ℕ) → Type 0
AreInTurn Are [] lines = lines ≡ []
AreInTurn Are (item ∷ items) lines =
    (first : List (List ℕ)) × (rest : List (List ℕ)) × Are item first × AreInTurn Are items rest × (lines ≡ first ++ rest)

-- The line of a span in which an element is open in a direction for a vehicle type: its first second and the first second
-- after it, each as the date of its day and its clock.
pub record IsSpanLine (element : ℕ) (direction : Direction) (vehicle : ℕ) (span : Interval) (line : List ℕ) : Type 0 where
  pub from : List ℕ
  pub until : List ℕ
  pub begins : IsDateText (day_of_second span.from) from
  pub ends : IsDateText (day_of_second span.until) until
  pub shown : line ≡ decimal element ++ codes "," ++ direction_word direction ++ codes "," ++ decimal vehicle ++ codes ","
      ++ (from ++ clock_text span.from) ++ codes "," ++ (until ++ clock_text span.until) ++ codes "\n"

module _ (found : List Restriction) (vehicle : ℕ) (horizon : Horizon) where
  -- One line for each interval of the list that is normal for the seconds of the horizon at which the element is open in the
  -- direction.
  abbrev pub AreOpenLines : ℕ → Direction → List (List ℕ) → Type 0
  AreOpenLines element direction lines = (spans : List Interval)
      × IsNormalList (λ t. Within (whole horizon) t × IsOpen found element direction vehicle t) (whole horizon).from spans
      × AreInTurn (λ span one. (line : List ℕ) × IsSpanLine element direction vehicle span line × (one ≡ line ∷ [])) spans lines

  -- The header, and the lines of each element that the restrictions name, in ascending order and positive before negative.
  abbrev pub ShowsOpen : List (List ℕ) → Type 0
  ShowsOpen lines = (elements : List ℕ) × (rest : List (List ℕ)) × AreElements found elements
      × AreInTurn (λ element. AreInTurn (AreOpenLines element) (Positive ∷ Negative ∷ [])) elements rest
      × (lines ≡ codes "element,direction,vehicle,from,until\n" ∷ rest)
