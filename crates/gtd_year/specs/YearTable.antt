-- The table of a year: the number of seconds of each day in which a road element is open. A line has its end: the LF is
-- its last byte.
use Rattle.std.specs.Prelude.{◌≡◌, ◌-◌, ◌++◌, ℕ, zero, suc, ℤ, pos, ◌+ℤ◌, ◌*ℤ◌, List, [], ◌∷◌, length, replicate, codes}
use Rattle.std.specs.Prelude.{decimal}
use Rattle.gtd_core.specs.Limits.{day_seconds}
use Rattle.gtd_calendar.specs.Calendar.{first_day, year_length}
use Rattle.gtd_calendar.specs.Stamp.{date_text}
use Rattle.gtd_spans.specs.Counting.{IsCount}
use Rattle.gtd_records.specs.Closing.{IsOpen, Restriction}
use Rattle.gtd_rows.specs.declared.direction.Direction.{Direction}

-- the number, right-aligned in five places
abbrev pub right_aligned : ℕ → List ℕ
right_aligned n = replicate (5 - length (decimal n)) 32 ++ decimal n

-- the line of a day, by its number: its date, and a number of seconds
abbrev pub day_line : ℤ → ℕ → List ℕ
day_line day count = date_text day ++ codes " " ++ right_aligned count ++ codes "\n"

-- One line for each of so many days from a day on: the number of the day's seconds, counted one by one, that are in the
-- set.
unfoldable pub AreDayLines : (ℤ → Type 0) → ℤ → ℕ → List (List ℕ) → Type 0
AreDayLines set day zero lines = lines ≡ []
AreDayLines set day (suc days) lines =
    (count : ℕ) × (rest : List (List ℕ)) × IsCount set (day *ℤ pos day_seconds) day_seconds count
    × AreDayLines set (day +ℤ pos 1) days rest × (lines ≡ day_line day count ∷ rest)

-- One line for each day of the year: the number of its seconds in which the element is open in the direction for the
-- vehicle type.
abbrev pub IsYearTable : List Restriction → ℕ → Direction → ℕ → ℕ → List (List ℕ) → Type 0
IsYearTable found element direction vehicle year lines =
    AreDayLines (IsOpen found element direction vehicle) (first_day (pos year)) (year_length (pos year)) lines
