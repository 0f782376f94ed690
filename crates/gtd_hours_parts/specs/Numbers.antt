-- Which written numbers stand for what. A number is its value and the count of its digits.
use Rattle.std.specs.Prelude.{◌≡◌, ℕ, ◌≤◌, Option, None, Some}
use Rattle.gtd_hours_parts.specs.declared.digits.Digits.{Digits}

-- a year has four digits
abbrev pub IsYearNumber : Digits → Type 0
IsYearNumber n = (n.count ≡ 4) × (1800 ≤ n.value) × (n.value ≤ 2799)

-- days and weeks have one or two
abbrev pub IsDayNumber : Digits → Type 0
IsDayNumber n = (1 ≤ n.count) × (n.count ≤ 2) × (1 ≤ n.value) × (n.value ≤ 31)

abbrev pub IsWeekNumber : Digits → Type 0
IsWeekNumber n = (1 ≤ n.count) × (n.count ≤ 2) × (1 ≤ n.value) × (n.value ≤ 53)

-- a place in the month has one
abbrev pub IsPlaceNumber : Digits → Type 0
IsPlaceNumber n = (n.count ≡ 1) × (1 ≤ n.value) × (n.value ≤ 5)

-- the days of an offset have one or two
abbrev pub IsOffsetNumber : Digits → Type 0
IsOffsetNumber n = (1 ≤ n.count) × (n.count ≤ 2) × (1 ≤ n.value) × (n.value ≤ 27)

-- the step of a range has one to four
abbrev pub IsStepNumber : Digits → Type 0
IsStepNumber n = (1 ≤ n.count) × (n.count ≤ 4) × (1 ≤ n.value) × (n.value ≤ 9999)

-- the step of a range is 1 if none is written
abbrev pub step_of : Option Digits → ℕ
step_of None = 1
step_of (Some n) = n.value

-- a range ends where it begins if no end is written
abbrev pub last_of : ℕ → Option ℕ → ℕ
last_of first None = first
last_of first (Some last) = last
