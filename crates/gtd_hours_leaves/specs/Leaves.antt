-- What expressions of days contain, and where they begin: each day begins some minutes late.
use Rattle.std.specs.Prelude.{◌≡◌, ◌↔◌, ◌⊎◌, ℕ, ◌+◌, ◌*◌, ◌<◌, ◌≤◌, Option, Some, None, ℤ, pos, ◌-ℤ◌}
use Rattle.gtd_core.specs.Seconds.{day_of_second}
use Rattle.gtd_core.specs.Ranges.{IsWithin, IsPlace}
use Rattle.gtd_core.specs.Trees.{leaf_count, tree_of}
use Rattle.gtd_core.specs.declared.domain.Expr.{Expr}
use Rattle.gtd_core.specs.declared.start.StartParts.{StartParts}
use Rattle.gtd_core.specs.declared.duration.DurationParts.{DurationParts}
use Rattle.gtd_calendar.specs.Clock.{second_of_day}
use Rattle.gtd_calendar.specs.ComputedFields.{day_fields}
use Rattle.gtd_eval.specs.Membership.{InTree}
use Rattle.gtd_hours.specs.Opening.{HoldsOn}
use Rattle.gtd_hours.specs.declared.hours.Selector.{Selector}
use Rattle.gtd_hours_leaves.specs.declared.clock.Clock.{Clock}
use Rattle.gtd_hours_leaves.specs.declared.level.Level.{Level}
use Rattle.gtd_hours_leaves.specs.declared.level.Level.TheVariants.{Year, Week}

-- the minutes of a clock
abbrev pub minutes_of : Clock → ℕ
minutes_of clock = 60 * clock.hour + clock.minute

-- the day of a second, if each day begins that many minutes late
abbrev pub moved_day : ℕ → ℤ → ℤ
moved_day a s = day_of_second (s -ℤ pos (60 * a))

-- and the second's place in it
abbrev pub moved_place : ℕ → ℤ → ℕ
moved_place a s = second_of_day (s -ℤ pos (60 * a))

-- the expression contains exactly the seconds of some days, each of which begins that many minutes late
abbrev pub AreDays : ℕ → (ℤ → Type 0) → Expr → Type 0
AreDays a days expr = (s : ℤ) → InTree (tree_of expr) s ↔ days (moved_day a s)

-- the expression contains exactly the seconds of a set
abbrev pub IsSet : (ℤ → Type 0) → Expr → Type 0
IsSet seconds expr = (s : ℤ) → InTree (tree_of expr) s ↔ seconds s

-- an expression that may be left out contains the second: none contains nothing
abbrev pub InMaybe : Option Expr → ℤ → Type 0
InMaybe None s = ⊥
InMaybe (Some expr) s = InTree (tree_of expr) s

-- how many basic domains it has
abbrev pub maybe_leaves : Option Expr → ℕ
maybe_leaves None = 0
maybe_leaves (Some expr) = leaf_count (tree_of expr)

-- the fields of a start that speak of days, each in its range
pub record AreDayParts (p : StartParts) : Type 0 where
  pub year : IsWithin 0 9999 p.year
  pub month : IsWithin 1 12 p.month
  pub week : IsWithin 1 53 p.week
  pub day : IsWithin 1 31 p.day
  pub nth : IsPlace p.nth
  pub nth_back : IsPlace p.nth_back
  pub weekdays : p.weekdays < 128

-- those fields, with a clock
abbrev pub clocked : StartParts → Clock → StartParts
clocked p clock = record p { hour = Some clock.hour; minute = Some clock.minute; second = None }

-- no number of a duration
abbrev pub no_duration : DurationParts
no_duration = record { years = 0; months = 0; weeks = 0; days = 0; hours = 0; minutes = 0; seconds = 0 }

-- the selector holds on day n, whose fields are computed
abbrev pub HoldsAt : Selector → ℤ → Type 0
HoldsAt selector n = HoldsOn selector n (day_fields n)

-- the day has the number
abbrev pub HasNumber : Level → ℕ → ℤ → Type 0
HasNumber Year k n = (day_fields n).year ≡ pos k
HasNumber Week k n = (day_fields n).week ≡ k

-- the day has one of the numbers from one to another
abbrev pub HasNumberWithin : Level → ℕ → ℕ → ℤ → Type 0
HasNumberWithin level first last n = (k : ℕ) × (first ≤ k) × (k ≤ last) × HasNumber level k n

-- One stretch can hold the days of these numbers: a hundred years at most; and not week 53 with one before it, since not
-- each year has it.
abbrev pub IsRun : Level → ℕ → ℕ → Type 0
IsRun Year first last = (first ≤ last) × (last ≤ 9999) × (last < first + 100)
IsRun Week first last = (1 ≤ first) × (first ≤ last) × (last ≤ 53) × ((last ≤ 52) ⊎ (first ≡ last))
