-- What must be known of a day to say whether a start begins on it.
use Rattle.std.specs.Prelude.{◌≡◌, true, ℤ}
use Rattle.gtd_core.specs.declared.start.StartParts.{StartParts}
use Rattle.gtd_calendar.specs.ComputedFields.{day_fields}
use Rattle.gtd_recur.specs.Begins.{begins_on, weekday_agrees}
use Rattle.gtd_recur.specs.declared.asks.Asks.{Asks}
use Rattle.gtd_recur.specs.declared.asks.Asks.TheVariants.{Nothing, Weekday, Date}

-- a day's weekday alone says whether the start begins on it
abbrev pub IsByWeekday : StartParts → Type 0
IsByWeekday p = (n : ℤ) → begins_on p (day_fields n) ≡ weekday_agrees p (day_fields n)

-- the start needs no more of a day than this
abbrev pub IsAsked : StartParts → Asks → Type 0
IsAsked p Nothing = (n : ℤ) → begins_on p (day_fields n) ≡ true
IsAsked p Weekday = IsByWeekday p
IsAsked p Date = Unit {0}
