-- What the expressions of days contain.
use Rattle.std.specs.Prelude.{◌≡◌, ◌⊎◌, ℕ, ◌+◌, ◌-◌, ◌<◌, ◌≤◌, ◌||◌, Bool, if◌then◌else◌, List, [], ◌∷◌}
use Rattle.std.specs.Prelude.{true, false, Option, Some, ℤ, pos, ◌+ℤ◌, ◌-ℤ◌, ◌≤ℤ◌, ◌<ℤ◌}
use Rattle.gtd_core.specs.Ranges.{no_parts}
use Rattle.gtd_core.specs.declared.domain.Expr.{Expr}
use Rattle.gtd_core.specs.declared.start.StartParts.{StartParts}
use Rattle.gtd_calendar.specs.Calendar.{first_day, weekday_of}
use Rattle.gtd_calendar.specs.ComputedEnds.{months_later}
use Rattle.gtd_calendar.specs.ComputedFields.{day_fields}
use Rattle.gtd_hours.specs.ComputedPlaces.{end_day}
use Rattle.gtd_hours.specs.Moving.{end_days, leads_out, weeks_back}
use Rattle.gtd_hours.specs.Opening.{EachHolds, SomeHolds}
use Rattle.gtd_hours.specs.declared.hours.Kind.{Kind}
use Rattle.gtd_hours.specs.declared.hours.Selector.{Selector}
use Rattle.gtd_hours.specs.declared.hours.Selector.TheVariants.{Yearly}
use Rattle.gtd_hours.specs.declared.places.End.{End}
use Rattle.gtd_hours.specs.declared.places.MovedPlace.{MovedPlace}
use Rattle.gtd_hours_leaves.specs.Leaves.{InMaybe, moved_day}

-- a month and a day of it
abbrev pub on_month_day : ℕ → ℕ → StartParts
on_month_day month day = record no_parts { month = Some month; day = Some day }

-- one of the selectors holds on day n, whose fields are computed
abbrev pub SomeHoldsAt : List Selector → ℤ → Type 0
SomeHoldsAt selectors n = SomeHolds selectors n (day_fields n)

-- of each kind one does
abbrev pub EachHoldsAt : List Kind → ℤ → Type 0
EachHoldsAt kinds n = EachHolds kinds n (day_fields n)

-- a selector, or the first of some, has days that come each year
abbrev pub is_yearly : Selector → Bool
is_yearly (Yearly x) = true
is_yearly x = false

abbrev pub begins_yearly : List Selector → Bool
begins_yearly [] = false
begins_yearly (x ∷ xs) = is_yearly x

-- it has, and day n is one of its years
abbrev pub IsOfNextYears : List Selector → ℤ → Type 0
IsOfNextYears [] n = ⊥
IsOfNextYears (Yearly x ∷ xs) n = (first_day (pos x.first) ≤ℤ n) × (n <ℤ first_day (pos (x.last + 1)))
IsOfNextYears (x ∷ xs) n = ⊥

-- Before some selectors: the union has the second, or what comes each year does, in the years of the first selector, or the
-- second is on a day on which one of the selectors holds.
abbrev pub HasDays : Option Expr → Option Expr → List Selector → ℕ → ℤ → Type 0
HasDays union each rest minutes s =
    InMaybe union s ⊎ (InMaybe each s × IsOfNextYears rest (moved_day minutes s)) ⊎ SomeHoldsAt rest (moved_day minutes s)

-- the month comes after one and before another, over the end of the year if the other does not come later
abbrev pub IsMonthBetween : ℕ → ℕ → ℕ → Type 0
IsMonthBetween first last month =
    ((first < month) × (month < last)) ⊎ ((last ≤ first) × ((first < month) ⊎ (month < last)))

-- ---- places with days after or before them, and ranges that move

-- The place that days are counted on from, which is some weeks before: whether it is counted back from the end of its month,
-- and its number. One that would be before the first of the month is counted in the month before.
abbrev pub on_back : MovedPlace → Bool
on_back x = x.is_back || leads_out x

abbrev pub on_number : MovedPlace → ℕ
on_number x =
    if x.is_back then x.place.number + weeks_back x.is_before x.days
    else if leads_out x then weeks_back x.is_before x.days + 1 - x.place.number
    else x.place.number - weeks_back x.is_before x.days

-- the day has this place
abbrev pub HasPlace : Bool → ℕ → ℕ → ℤ → Type 0
HasPlace back weekday number n =
    (weekday_of n ≡ weekday) × ((if back then (day_fields n).nth_back else (day_fields n).nth) ≡ number)

-- the day that an end is counted on from in a year
abbrev pub start_day : End → ℤ → ℤ
start_day end y = end_day end y -ℤ pos (end_days end)

-- the day is in one of the stretches of some months from these days on, and not among so many first days of one
abbrev pub IsFrom : End → ℕ → ℕ → ℤ → Type 0
IsFrom end months days n =
    ((y : ℤ) × (start_day end y ≤ℤ n) × (n <ℤ months_later (start_day end y) months))
    × (((y : ℤ) × (start_day end y ≤ℤ n) × (n <ℤ (start_day end y +ℤ pos days))) → ⊥)
