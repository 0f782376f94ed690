-- The days of selectors that are known in some years alone, and what a table of holidays must say for them.
use Rattle.std.specs.Prelude.{◌≡◌, ◌⊎◌, ℕ, zero, suc, List, [], ◌∷◌, Option, Some, None, ℤ, ◌-ℤ◌, ◌<ℤ◌, ⊤}
use Rattle.gtd_hours_holidays.specs.Easter.{IsEaster}
use Rattle.gtd_hours_holidays.specs.KnownYears.{IsOfYears}
use Rattle.gtd_hours_holidays.specs.Table.{IsCovered, IsHoliday}
use Rattle.gtd_hours_holidays.specs.declared.known_years.KnownYears.{KnownYears}
use Rattle.gtd_hours_holidays.specs.declared.row.HolidayKind.{HolidayKind}
use Rattle.gtd_hours_holidays.specs.declared.row.HolidayKind.TheVariants as kind
use Rattle.gtd_hours_holidays.specs.declared.row.HolidayRow.{HolidayRow}
use Rattle.gtd_hours_days.specs.EasterRanges.{IsInRange}
use Rattle.gtd_hours_days.specs.declared.listed.EasterDays.{EasterDays}
use Rattle.gtd_hours_days.specs.declared.listed.EasterDays.TheVariants as easter
use Rattle.gtd_hours_days.specs.declared.listed.Listed.{Listed}
use Rattle.gtd_hours_days.specs.declared.listed.Listed.TheVariants.{Public, School, Easter}

-- day n is a holiday of the years
abbrev pub IsKnownHoliday : List HolidayRow → KnownYears → HolidayKind → ℤ → Type 0
IsKnownHoliday rows years kind n = IsOfYears years.first years.last n × IsHoliday rows kind n

-- day n is Easter Sunday of some year
abbrev pub IsEasterSunday : ℤ → Type 0
IsEasterSunday n = (y : ℕ) × IsEaster y n

-- day n is one of these days of Easter, whatever its year is
abbrev pub IsOfEaster : EasterDays → ℤ → Type 0
IsOfEaster (easter.Day offset) n = IsEasterSunday (n -ℤ offset.days)
IsOfEaster (easter.Range range) n = IsInRange range.is_over range.first range.last n

-- The selector holds on day n. A holiday is a day of the years, and the day that comes so many days after it may be another.
-- A day of Easter is a day of the years itself.
abbrev pub IsListed : List HolidayRow → KnownYears → Listed → ℤ → Type 0
IsListed rows years (Public offset) n = IsKnownHoliday rows years kind.Public (n -ℤ offset.days)
IsListed rows years School n = IsKnownHoliday rows years kind.School n
IsListed rows years (Easter days) n = IsOfYears years.first years.last n × IsOfEaster days n

-- one of the selectors does
abbrev pub SomeListed : List HolidayRow → KnownYears → List Listed → ℤ → Type 0
SomeListed rows years [] n = ⊥
SomeListed rows years (x ∷ xs) n = IsListed rows years x n ⊎ SomeListed rows years xs n

-- ---- what the table must say

-- the kind of holidays that a selector is of
abbrev pub kind_of : Listed → Option HolidayKind
kind_of (Public offset) = Some kind.Public
kind_of School = Some kind.School
kind_of (Easter days) = None

-- the table says all holidays of the kind on each day of the years
abbrev pub CoversYears : List HolidayRow → KnownYears → Option HolidayKind → Type 0
CoversYears rows years None = ⊤
CoversYears rows years (Some kind) = (n : ℤ) → IsOfYears years.first years.last n → IsCovered rows kind n

-- The selectors are of the same kind, and the other holds wherever the one does.
pub record IsAlike (one other : Listed) : Type 0 where
  pub kind : kind_of one ≡ kind_of other
  pub days : (rows : List HolidayRow) (years : KnownYears) (n : ℤ) → IsListed rows years one n → IsListed rows years other n

-- one of them is like this one
abbrev pub HasAlike : List Listed → Listed → Type 0
HasAlike [] one = ⊥
HasAlike (x ∷ xs) one = IsAlike one x ⊎ HasAlike xs one

-- it does for each of the selectors
abbrev pub CoversAll : List HolidayRow → KnownYears → List Listed → Type 0
CoversAll rows years [] = ⊤
CoversAll rows years (x ∷ xs) = CoversYears rows years (kind_of x) × CoversAll rows years xs

-- the first day of the years on which the table does not say all holidays of the kind
pub record IsFirstUncovered (rows : List HolidayRow) (years : KnownYears) (kind : HolidayKind) (day : ℤ) : Type 0 where
  pub of_years : IsOfYears years.first years.last day
  pub uncovered : IsCovered rows kind day → ⊥
  pub earlier : (n : ℤ) → IsOfYears years.first years.last n → n <ℤ day → IsCovered rows kind n

-- the first selector for which it does not say all, counted from 0, and the first day for it
abbrev pub IsUncovered : List HolidayRow → KnownYears → List Listed → ℕ → ℤ → Type 0
IsUncovered rows years [] place day = ⊥
IsUncovered rows years (x ∷ xs) zero day = (kind : HolidayKind) × (kind_of x ≡ Some kind) × IsFirstUncovered rows years kind day
IsUncovered rows years (x ∷ xs) (suc place) day = CoversYears rows years (kind_of x) × IsUncovered rows years xs place day
