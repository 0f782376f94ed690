-- Which days a given year, month, week, weekday or day of the month leaves to be looked at.
use Rattle.std.specs.Prelude.{◌≡◌, ℕ, ◌≤◌, ◌<◌, ◌⊎◌, Bool, true, false, ◌==◌, ◌&&◌, ◌||◌, not, is_some, Option, Some, None}
use Rattle.std.specs.Prelude.{ℤ, pos, ◌+ℤ◌, ◌-ℤ◌, ◌*ℤ◌, ◌≤ℤ◌, ◌<ℤ◌, IfSome}
use Rattle.std.specs.Int.{int_div_euclid}
use Rattle.gtd_core.specs.declared.start.StartParts.{StartParts}
use Rattle.gtd_calendar.specs.Calendar.{IsCalendarYear, first_day}
use Rattle.gtd_calendar.specs.ComputedDates.{year_of, month_of}
use Rattle.gtd_calendar.specs.ComputedFields.{day_fields}
use Rattle.gtd_recur.specs.Begins.{begins_on, gives_clock, gives_day, is_weekday}

-- the next run of days, from a day on and before an end, that have a property: the days before the run do not have it
pub record IsNextRun (has : ℤ → Type 0) (day end from until : ℤ) : Type 0 where
  pub low : day ≤ℤ from
  pub order : from ≤ℤ until
  pub within : until ≤ℤ end
  pub some : from <ℤ end → from <ℤ until
  pub skipped : (n : ℤ) → day ≤ℤ n → n <ℤ from → has n → ⊥
  pub run : (n : ℤ) → from ≤ℤ n → n <ℤ until → has n

-- the last run of days, before an end and not before a day, that have a property: the days after the run do not have it
pub record IsLastRun (has : ℤ → Type 0) (low end from until : ℤ) : Type 0 where
  pub begin : low ≤ℤ from
  pub order : from ≤ℤ until
  pub within : until ≤ℤ end
  pub some : low <ℤ until → from <ℤ until
  pub skipped : (n : ℤ) → until ≤ℤ n → n <ℤ end → has n → ⊥
  pub run : (n : ℤ) → from ≤ℤ n → n <ℤ until → has n

-- a month of one year comes before a month of another year or of the same
abbrev pub IsBefore : ℤ → ℕ → ℤ → ℕ → Type 0
IsBefore y m z k = (y <ℤ z) ⊎ ((y ≡ z) × (m < k))

-- the days from `from` up to but not including `until` are those of the months `low` to `high` of the year
pub record AreMonths (year : ℤ) (low high : ℕ) (from until : ℤ) : Type 0 where
  pub order : from <ℤ until
  pub before : (n : ℤ) → n <ℤ from → IsBefore (year_of n) (month_of n) year low
  pub on : (n : ℤ) → from ≤ℤ n → n <ℤ until → (year_of n ≡ year) × (low ≤ month_of n) × (month_of n ≤ high)
  pub after : (n : ℤ) → until ≤ℤ n → IsBefore year high (year_of n) (month_of n)

-- of the days from `first` up to but not including `last`, those from a day on and before an end
pub record IsClipped (first last day end from until : ℤ) : Type 0 where
  pub low : day ≤ℤ from
  pub order : from ≤ℤ until
  pub within : until ≤ℤ end
  pub some : from <ℤ end → from <ℤ until
  pub early : (n : ℤ) → day ≤ℤ n → n <ℤ from → n <ℤ first
  pub inside : (n : ℤ) → from ≤ℤ n → n <ℤ until → (first ≤ℤ n) × (n <ℤ last)

-- of the days from `first` up to but not including `last`, those before an end and not before a day
pub record IsClippedBack (first last low end from until : ℤ) : Type 0 where
  pub begin : low ≤ℤ from
  pub order : from ≤ℤ until
  pub within : until ≤ℤ end
  pub some : low <ℤ until → from <ℤ until
  pub late : (n : ℤ) → until ≤ℤ n → low ≤ℤ n → n <ℤ end → last ≤ℤ n
  pub inside : (n : ℤ) → from ≤ℤ n → n <ℤ until → (first ≤ℤ n) × (n <ℤ last)

-- the day is in the year, and in the month if one is given
abbrev pub IsOf : ℤ → Option ℕ → ℤ → Type 0
IsOf year month n = (year_of n ≡ year) × IfSome month (λ m. month_of n ≡ m)

-- the day is in the month
abbrev pub IsOfMonth : ℕ → ℤ → Type 0
IsOfMonth month n = month_of n ≡ month

-- the first day, from a day on and before an end, on which a start begins; or the end
pub record IsFirstBegun (p : StartParts) (day end found : ℤ) : Type 0 where
  pub low : day ≤ℤ found
  pub high : found ≤ℤ end
  pub none : (n : ℤ) → day ≤ℤ n → n <ℤ found → begins_on p (day_fields n) ≡ false
  pub some : found <ℤ end → begins_on p (day_fields found) ≡ true

-- the last day before an end and not before a day on which a start begins; or the day before that day
pub record IsLastBegun (p : StartParts) (low end found : ℤ) : Type 0 where
  pub begin : low ≤ℤ (found +ℤ pos 1)
  pub before : found <ℤ end
  pub none : (n : ℤ) → found <ℤ n → n <ℤ end → begins_on p (day_fields n) ≡ false
  pub some : low ≤ℤ found → begins_on p (day_fields found) ≡ true

-- a start begins on the day; or it begins neither on that day nor on those up to a later one and before an end
abbrev pub IsMissed : StartParts → ℤ → ℤ → Option ℤ → Type 0
IsMissed p day end None = begins_on p (day_fields day) ≡ true
IsMissed p day end (Some next) =
    (day <ℤ next) × ((n : ℤ) → day ≤ℤ n → n <ℤ next → n <ℤ end → begins_on p (day_fields n) ≡ false)

-- the same backwards
abbrev pub IsMissedBack : StartParts → ℤ → ℤ → Option ℤ → Type 0
IsMissedBack p low day None = begins_on p (day_fields day) ≡ true
IsMissedBack p low day (Some before) =
    (before <ℤ day) × ((n : ℤ) → low ≤ℤ n → before <ℤ n → n ≤ℤ day → begins_on p (day_fields n) ≡ false)

-- a place in the month, if it is given, is of this weekday
abbrev pub place_on : Option (ℕ × ℕ) → ℕ → Bool
place_on (Some x) weekday = x.1 == weekday
place_on None weekday = true

-- A given weekday or place in the month does not exclude the weekday; nor does a week that is given without a day and a
-- clock, which begins on its Monday.
abbrev pub weekday_fits : StartParts → ℕ → Bool
weekday_fits p weekday =
    is_weekday p weekday
    && (place_on p.nth weekday
    && (place_on p.nth_back weekday
    && (not (is_some p.week) || (gives_day p || (gives_clock p || (weekday == 2))))))

-- the Monday of week w of year y, as ISO 8601 numbers weeks: 7 divides the days that are Thursdays
abbrev pub monday_of : ℤ → ℕ → ℤ
monday_of y w = (pos 7 *ℤ (int_div_euclid (first_day y +ℤ pos 6) (pos 7) +ℤ pos w -ℤ pos 1)) -ℤ pos 3

-- that Monday, if the calendar has the year
abbrev pub IsMonday : ℤ → ℕ → Option ℤ → Type 0
IsMonday y w None = IsCalendarYear y → ⊥
IsMonday y w (Some monday) = IsCalendarYear y × (monday ≡ monday_of y w)

-- a later day such that no day of week w of year y comes between, nor the week's Monday; or none, if the week is over or
-- the calendar has no such year
abbrev pub IsNextOfWeek : ℤ → ℕ → ℤ → Option ℤ → Type 0
IsNextOfWeek y w day None = (IsCalendarYear y → ⊥) ⊎ ((monday_of y w +ℤ pos 6) ≤ℤ day)
IsNextOfWeek y w day (Some next) = (day <ℤ next) × ((next ≡ day +ℤ pos 1) ⊎ (next ≡ monday_of y w))

-- the same backwards, with its Sunday
abbrev pub IsLastOfWeek : ℤ → ℕ → ℤ → Option ℤ → Type 0
IsLastOfWeek y w day None = (IsCalendarYear y → ⊥) ⊎ (day ≤ℤ monday_of y w)
IsLastOfWeek y w day (Some last) = (last <ℤ day) × ((last ≡ day -ℤ pos 1) ⊎ (last ≡ monday_of y w +ℤ pos 6))
