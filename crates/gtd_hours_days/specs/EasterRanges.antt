-- Days of each year, and ranges from one to another of which Easter is one.
use Rattle.std.specs.Prelude.{◌≡◌, ℕ, ◌+◌, ◌≤◌, ◌<◌, ◌||◌, Bool, true, false, if◌then◌else◌, ℤ, pos, ◌-ℤ◌, ◌≤ℤ◌, ◌<ℤ◌}
use Rattle.gtd_hours.specs.Moving.{IsEndIn, is_yearly}
use Rattle.gtd_hours_holidays.specs.Easter.{IsEaster}
use Rattle.gtd_hours_days.specs.declared.yearly_day.YearlyDay.{YearlyDay}
use Rattle.gtd_hours_days.specs.declared.yearly_day.YearlyDay.TheVariants.{Calendar, Easter}

-- day n is this day of the year
abbrev pub IsDayIn : YearlyDay → ℕ → ℤ → Type 0
IsDayIn (Calendar end) y n = IsEndIn end (pos y) n
IsDayIn (Easter offset) y n = IsEaster y (n -ℤ offset.days)

-- it is so many days after Easter
abbrev pub is_easter : YearlyDay → Bool
is_easter (Calendar end) = false
is_easter (Easter offset) = true

-- each year has it: it is not 29 February
abbrev pub has_each_year : YearlyDay → Bool
has_each_year (Calendar end) = is_yearly end
has_each_year (Easter offset) = true

-- ---- the order of two days of each year

-- the year of the last day of a range that begins in a year
abbrev pub last_year : Bool → ℕ → ℕ
last_year over y = if over then y + 1 else y

-- The first day a of a year is not after its last day b; or it is, if ranges go on to the next year.
abbrev pub IsOrder : Bool → ℤ → ℤ → Type 0
IsOrder over a b = (over ≡ false → a ≤ℤ b) × (over ≡ true → b <ℤ a)

-- The range from the first day a of a year to its last day b ends before the first day of the next year; or the one from there to
-- the last day of the next year does not end before it begins.
abbrev pub IsNextOrder : Bool → ℤ → ℤ → ℤ → ℤ → Type 0
IsNextOrder over a b next_a next_b = (over ≡ false → b <ℤ next_a) × (over ≡ true → a ≤ℤ next_b)

-- so it is in this year; and from this year to the next
abbrev pub IsInOrder : Bool → YearlyDay → YearlyDay → ℕ → Type 0
IsInOrder over first last y = (a b : ℤ) → IsDayIn first y a → IsDayIn last y b → IsOrder over a b

abbrev pub IsInNextOrder : Bool → YearlyDay → YearlyDay → ℕ → Type 0
IsInNextOrder over first last y =
    (a b c d : ℤ) → IsDayIn first y a → IsDayIn last y b → IsDayIn first (y + 1) c → IsDayIn last (y + 1) d
    → IsNextOrder over a b c d

-- so it is in each year of the calendar
abbrev pub AreInOrder : Bool → YearlyDay → YearlyDay → Type 0
AreInOrder over first last =
    ((y : ℕ) → 1800 ≤ y → y ≤ 2799 → IsInOrder over first last y)
    × ((y : ℕ) → 1800 ≤ y → y < 2799 → IsInNextOrder over first last y)

-- two days of each year, of which one is so many days after Easter, and whether ranges go on to the next year
abbrev pub IsEasterRange : Bool → YearlyDay → YearlyDay → Type 0
IsEasterRange over first last =
    (has_each_year first ≡ true) × (has_each_year last ≡ true) × ((is_easter first || is_easter last) ≡ true)
    × AreInOrder over first last

-- ---- the days of a range

-- day n is in the range that begins in year y
abbrev pub IsInRangeOf : Bool → YearlyDay → YearlyDay → ℕ → ℤ → Type 0
IsInRangeOf over first last y n =
    (a b : ℤ) × IsDayIn first y a × IsDayIn last (last_year over y) b × (a ≤ℤ n) × (n ≤ℤ b)

-- and in that of some year
abbrev pub IsInRange : Bool → YearlyDay → YearlyDay → ℤ → Type 0
IsInRange over first last n = (y : ℕ) × IsInRangeOf over first last y n
