-- Which fields make a start, which numbers a duration, and how long a stretch of a duration can be at most. The letters
-- and fields are those of GDF time domains (ISO 14825:2004); their ranges are this project's own.
use Rattle.std.specs.Prelude.{◌≢◌, ℕ, ◌<◌, ◌≤◌, Option, IfSome, ◌+◌, ◌-◌, ◌*◌, ◌/◌}
use Rattle.gtd_core.specs.declared.start.StartParts.{StartParts}
use Rattle.gtd_core.specs.Limits.{day_seconds, most_bound}
use Rattle.gtd_core.specs.declared.duration.DurationParts.{DurationParts}
pub use Rattle.gtd_core.specs.FieldTable.{no_parts, bound_of}

-- a number that is left out, or one from low to high
abbrev pub IsWithin : ℕ → ℕ → Option ℕ → Type 0
IsWithin low high field = IfSome field (λ n. (low ≤ n) × (n ≤ high))

-- left out, or the first to fifth of a weekday
abbrev pub IsPlace : Option (ℕ × ℕ) → Type 0
IsPlace nth = IfSome nth (λ place. (1 ≤ place.0) × (place.0 ≤ 5) × (1 ≤ place.1) × (place.1 ≤ 7))

-- a field is given, and each is in its range
pub record IsStart (parts : StartParts) : Type 0 where
  pub given : parts ≢ no_parts
  pub year : IsWithin 0 9999 parts.year
  pub month : IsWithin 1 12 parts.month
  pub week : IsWithin 1 53 parts.week
  pub day : IsWithin 1 31 parts.day
  pub hour : IsWithin 0 23 parts.hour
  pub minute : IsWithin 0 59 parts.minute
  pub second : IsWithin 0 59 parts.second
  pub nth : IsPlace parts.nth
  pub nth_back : IsPlace parts.nth_back
  pub weekdays : parts.weekdays < 128

-- the most days that the calendar part can take: a year has at most 366, a month at most 31
abbrev pub day_bound : DurationParts → ℕ
day_bound parts = 366 * parts.years + 31 * parts.months + 7 * parts.weeks + parts.days

-- the seconds of the clock part
abbrev pub clock_seconds : DurationParts → ℕ
clock_seconds parts = 3600 * parts.hours + 60 * parts.minutes + parts.seconds

-- the lookback: the bound in days, rounded up
abbrev pub lookback_of : DurationParts → ℕ
lookback_of parts = (bound_of parts + (day_seconds - 1)) / day_seconds

-- each number has at most six digits
pub record HasSixDigits (parts : DurationParts) : Type 0 where
  pub years : parts.years ≤ 999999
  pub months : parts.months ≤ 999999
  pub weeks : parts.weeks ≤ 999999
  pub days : parts.days ≤ 999999
  pub hours : parts.hours ≤ 999999
  pub minutes : parts.minutes ≤ 999999
  pub seconds : parts.seconds ≤ 999999

-- and the bound is at most 36,600 days
abbrev pub IsDuration : DurationParts → Type 0
IsDuration parts = HasSixDigits parts × (bound_of parts ≤ most_bound)
