-- The numbers of seconds of days.
use Rattle.std.specs.Prelude.{◌<◌, ◌↔◌, ◌≤ℤ◌, ◌<ℤ◌, ◌+ℤ◌, ◌*ℤ◌, ℕ, ℤ, pos, List, [], ◌∷◌, length, get_or}
use Rattle.gtd_core.specs.Limits.{day_seconds}
use Rattle.gtd_records.specs.Closing.{IsOpen, Restriction}
use Rattle.gtd_rows.specs.declared.direction.Direction.{Direction}
use Rattle.gtd_spans.specs.Counting.{IsCount}
use Rattle.gtd_year.specs.YearTable.{day_line}

-- those of the days from a first one on, counted in a set
abbrev pub AreCounts : (ℤ → Type 0) → ℤ → List ℕ → Type 0
AreCounts set first counts =
    (k : ℕ) → k < length counts → IsCount set ((first +ℤ pos k) *ℤ pos day_seconds) day_seconds (get_or counts k 0)

-- the lines of days with these numbers
abbrev pub count_lines : ℤ → List ℕ → List (List ℕ)
count_lines first [] = []
count_lines first (count ∷ counts) = day_line first count ∷ count_lines (first +ℤ pos 1) counts

-- Of so many days from a first one on, the set has the seconds of each that it has a week later.
abbrev pub RepeatsWeekly : (ℤ → Type 0) → ℤ → ℕ → Type 0
RepeatsWeekly set first days =
    (t : ℤ) → (first *ℤ pos day_seconds) ≤ℤ t → (t +ℤ pos 604_800) <ℤ ((first +ℤ pos days) *ℤ pos day_seconds)
    → set t ↔ set (t +ℤ pos 604_800)

-- The element is open at a second exactly if it is a week later.
abbrev pub IsOpenWeekly : List Restriction → ℕ → Type 0
IsOpenWeekly found element =
    (direction : Direction) (vehicle : ℕ) (t : ℤ)
    → IsOpen found element direction vehicle t ↔ IsOpen found element direction vehicle (t +ℤ pos 604_800)
