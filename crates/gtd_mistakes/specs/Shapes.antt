-- What starts and durations look like, as the rules speak of them.
use Rattle.std.specs.Prelude.{◌≡◌, ◌≢◌, ◌⊎◌, ◌<◌, ◌≤◌, ℕ, ◌+◌, ◌*◌, Bool, ◌||◌, if◌then◌else◌, Option, Some, None, is_some}
use Rattle.gtd_core.specs.declared.start.StartParts.{StartParts}
use Rattle.gtd_core.specs.declared.duration.DurationParts.{DurationParts}
use Rattle.gtd_core.specs.Ranges.{clock_seconds}

-- no hour, minute or second is given
abbrev pub HasNoClock : StartParts → Type 0
HasNoClock start = (start.hour ≡ None) × (start.minute ≡ None) × (start.second ≡ None)

-- no day of the month and no weekday's place is given
abbrev pub HasNoOtherDay : StartParts → Type 0
HasNoOtherDay start = (start.day ≡ None) × (start.nth ≡ None) × (start.nth_back ≡ None)

-- nor weekdays
abbrev pub HasNoDay : StartParts → Type 0
HasNoDay start = (start.weekdays ≡ 0) × HasNoOtherDay start

-- a month is given, perhaps with a year, and nothing finer
abbrev pub IsMonthAlone : StartParts → Type 0
IsMonthAlone start = (start.month ≢ None) × (start.week ≡ None) × HasNoDay start × HasNoClock start

-- the clock alone is given, with its hour
abbrev pub IsDaily : StartParts → Type 0
IsDaily start =
    (start.hour ≢ None) × (start.year ≡ None) × (start.month ≡ None) × (start.week ≡ None) × HasNoDay start

-- the number of a field, or 0 if it is not given
abbrev pub or_zero : Option ℕ → ℕ
or_zero None = 0
or_zero (Some n) = n

-- the first second of a day at which the start's clock stands
abbrev pub begin_of : StartParts → ℕ
begin_of start = 3600 * or_zero start.hour + 60 * or_zero start.minute + or_zero start.second

-- a second is given only below a minute: from an hour on, the clock stands at one second of a day
abbrev pub HasOneTime : StartParts → Type 0
HasOneTime start = (start.second ≡ None) ⊎ (start.minute ≢ None)

-- The number of a field. Where it is not given, any number will do above a finer field, up to the last one, and otherwise only 0.
abbrev pub or_last : Option ℕ → Bool → ℕ → ℕ
or_last None finer last = if finer then last else 0
or_last (Some n) finer last = n

-- the last second of a day at which the start's clock stands
abbrev pub last_begin_of : StartParts → ℕ
last_begin_of start =
    3600 * or_last start.hour (is_some start.minute || is_some start.second) 23
    + 60 * or_last start.minute (is_some start.second) 59 + or_zero start.second

-- the years and months, in months; the weeks and days, in days
abbrev pub months_of : DurationParts → ℕ
months_of duration = 12 * duration.years + duration.months

abbrev pub days_of : DurationParts → ℕ
days_of duration = 7 * duration.weeks + duration.days

-- the duration has these months, days, and seconds of the clock
abbrev pub Lasts : ℕ → ℕ → ℕ → DurationParts → Type 0
Lasts months days seconds duration =
    (months_of duration ≡ months) × (days_of duration ≡ days) × (clock_seconds duration ≡ seconds)

-- hours, minutes and seconds alone
abbrev pub LastsClock : DurationParts → Type 0
LastsClock duration = (months_of duration ≡ 0) × (days_of duration ≡ 0)

-- each stretch ends on the day of its beginning, at midnight at the latest
abbrev pub EndsWithinDay : StartParts → DurationParts → Type 0
EndsWithinDay start duration =
    (months_of duration ≡ 0) × (last_begin_of start + 86_400 * days_of duration + clock_seconds duration ≤ 86_400)

-- each stretch, of at most 24 hours, ends after midnight
abbrev pub EndsAfterMidnight : StartParts → DurationParts → Type 0
EndsAfterMidnight start duration =
    LastsClock duration × (clock_seconds duration ≤ 86_400) × (86_400 < begin_of start + clock_seconds duration)
