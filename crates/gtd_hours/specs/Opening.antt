-- When opening hours are open, in the terms of OpenStreetMap: rules, the days that they match, and the spans of these days. Of
-- each second it is said that it is open, that it is closed, or nothing.
-- Days are numbered from 1970-01-01, and seconds from its beginning.
use Rattle.std.specs.Prelude.{◌≡◌, ◌⊎◌, ℕ, ◌+◌, ◌-◌, ◌*◌, ◌%◌, ◌<◌, ◌≤◌, List, [], ◌∷◌, ℤ, pos, ◌+ℤ◌, ◌*ℤ◌, ◌≤ℤ◌, ◌<ℤ◌}
use Rattle.gtd_core.specs.Limits.{day_seconds}
use Rattle.gtd_core.specs.Seconds.{IsOnDay}
use Rattle.gtd_calendar.specs.declared.day.DayFields.{DayFields}
use Rattle.gtd_calendar.specs.Calendar.{AreFieldsOf, day_number, first_day}
use Rattle.gtd_hours.specs.Moving.{IsInMoving, IsMovedFrom}
use Rattle.gtd_hours.specs.Ranges.{end_of}
use Rattle.gtd_hours.specs.Yearly.{IsOfDays}
use Rattle.gtd_hours.specs.declared.hours.Selector.{Selector}
use Rattle.gtd_hours.specs.declared.hours.Selector.TheVariants.{Years, Months, Dates, Dated, Weeks, Weekdays, Nth, NthBack}
use Rattle.gtd_hours.specs.declared.hours.Selector.TheVariants.{Moved, Moving, Yearly}
use Rattle.gtd_hours.specs.declared.hours.Kind.{Kind}
use Rattle.gtd_hours.specs.declared.hours.TimeRange.{TimeRange}
use Rattle.gtd_hours.specs.declared.hours.Link.{Link}
use Rattle.gtd_hours.specs.declared.hours.Link.TheVariants.{Instead, Also, Fallback}
use Rattle.gtd_hours.specs.declared.hours.Modifier.{Modifier}
use Rattle.gtd_hours.specs.declared.hours.Modifier.TheVariants.{Open, Closed}
use Rattle.gtd_hours.specs.declared.hours.Rule.{Rule}
use Rattle.gtd_hours.specs.declared.hours.Hours.{Hours}

-- a number from the first to the last or, if the last is before the first, from the first on or up to the last
abbrev pub IsRound : ℕ → ℕ → ℕ → Type 0
IsRound first last k = ((first ≤ k) × (k ≤ last)) ⊎ ((last < first) × ((first ≤ k) ⊎ (k ≤ last)))

-- one of every so many numbers, from the first to the last
abbrev pub IsStep : ℕ → ℕ → ℕ → ℕ → Type 0
IsStep first last step k = (first ≤ k) × (k ≤ last) × ((k - first) % step ≡ 0)

-- months and days are compared as one number
abbrev pub date_key : ℕ → ℕ → ℕ
date_key month day = 32 * month + day

-- The selector holds on day n, which has the fields f. The year is that of the date; the week is that of ISO 8601.
abbrev pub HoldsOn : Selector → ℤ → DayFields → Type 0
HoldsOn (Years years) n f = (y : ℕ) × IsStep years.first years.last years.step y × (f.year ≡ pos y)
HoldsOn (Months months) n f = IsRound months.first months.last f.month
HoldsOn (Dates dates) n f =
    IsRound (date_key dates.first.month dates.first.day) (date_key dates.last.month dates.last.day)
    (date_key f.month f.day)
HoldsOn (Dated dates) n f =
    (day_number (pos dates.first.year) dates.first.month dates.first.day ≤ℤ n)
    × (n ≤ℤ day_number (pos dates.last.year) dates.last.month dates.last.day)
HoldsOn (Weeks weeks) n f = IsStep weeks.first weeks.last weeks.step f.week
HoldsOn (Weekdays days) n f = IsRound days.first days.last f.weekday
HoldsOn (Nth place) n f = (f.weekday ≡ place.weekday) × (f.nth ≡ place.number)
HoldsOn (NthBack place) n f = (f.weekday ≡ place.weekday) × (f.nth_back ≡ place.number)
HoldsOn (Moved place) n f = IsMovedFrom place n
HoldsOn (Moving range) n f = IsInMoving range.is_over range.first range.last n
HoldsOn (Yearly days) n f =
    (first_day (pos days.first) ≤ℤ n) × (n <ℤ first_day (pos (days.last + 1))) × IsOfDays days.month days.day days.days n

-- one of the selectors holds
abbrev pub SomeHolds : List Selector → ℤ → DayFields → Type 0
SomeHolds [] n f = ⊥
SomeHolds (x ∷ xs) n f = HoldsOn x n f ⊎ SomeHolds xs n f

-- of each kind that is given a selector holds
abbrev pub EachHolds : List Kind → ℤ → DayFields → Type 0
EachHolds [] n f = Unit {0}
EachHolds (kind ∷ kinds) n f = SomeHolds kind.selectors.items n f × EachHolds kinds n f

-- day n matches
abbrev pub Matches : List Kind → ℤ → Type 0
Matches kinds n = (f : DayFields) × AreFieldsOf n f × EachHolds kinds n f

-- second s is from minute a of day n on, and before its minute b; a minute may lie on a later day
abbrev pub IsBetween : ℤ → ℕ → ℕ → ℤ → Type 0
IsBetween n a b s =
    ((pos day_seconds *ℤ n +ℤ pos (60 * a)) ≤ℤ s) × (s <ℤ (pos day_seconds *ℤ n +ℤ pos (60 * b)))

-- one of the ranges of times holds the second, as a range of day n
abbrev pub SomeTime : List TimeRange → ℤ → ℤ → Type 0
SomeTime [] n s = ⊥
SomeTime (t ∷ ts) n s = IsBetween n t.begin (end_of t.begin t.last) s ⊎ SomeTime ts n s

-- and if there are none, all of the day is meant
abbrev pub IsTimeOn : List TimeRange → ℤ → ℤ → Type 0
IsTimeOn [] n s = IsBetween n 0 1440 s
IsTimeOn (t ∷ ts) n s = SomeTime (t ∷ ts) n s

-- the second is in the spans of a rule: those of some day that matches
abbrev pub InSpans : List Kind → List TimeRange → ℤ → Type 0
InSpans kinds times s = (n : ℤ) × Matches kinds n × IsTimeOn times n s

-- the second is on a day that matches
abbrev pub IsOnMatch : List Kind → ℤ → Type 0
IsOnMatch kinds s = (n : ℤ) × IsOnDay s n × Matches kinds n

-- The second is open after a rule, given whether it was open, or said to be closed, before it. A fallback rule speaks of what
-- nothing is said of.
abbrev pub IsOpenBy : Modifier → Link → Rule → Type 0 → Type 0 → ℤ → Type 0
IsOpenBy Open Instead rule WasOpen WasClosed s =
    (WasOpen × (IsOnMatch rule.kinds.items s → ⊥)) ⊎ InSpans rule.kinds.items rule.times.items s
IsOpenBy Open Also rule WasOpen WasClosed s = WasOpen ⊎ InSpans rule.kinds.items rule.times.items s
IsOpenBy Open Fallback rule WasOpen WasClosed s =
    WasOpen ⊎ (InSpans rule.kinds.items rule.times.items s × (WasClosed → ⊥))
IsOpenBy Closed Instead rule WasOpen WasClosed s = WasOpen × (InSpans rule.kinds.items rule.times.items s → ⊥)
IsOpenBy Closed Also rule WasOpen WasClosed s = WasOpen × (InSpans rule.kinds.items rule.times.items s → ⊥)
IsOpenBy Closed Fallback rule WasOpen WasClosed s = WasOpen

-- and whether it is said to be closed
abbrev pub IsClosedBy : Modifier → Link → Rule → Type 0 → Type 0 → ℤ → Type 0
IsClosedBy Open Instead rule WasOpen WasClosed s =
    WasClosed × (IsOnMatch rule.kinds.items s → ⊥) × (InSpans rule.kinds.items rule.times.items s → ⊥)
IsClosedBy Open Also rule WasOpen WasClosed s = WasClosed × (InSpans rule.kinds.items rule.times.items s → ⊥)
IsClosedBy Open Fallback rule WasOpen WasClosed s = WasClosed
IsClosedBy Closed Instead rule WasOpen WasClosed s = WasClosed ⊎ InSpans rule.kinds.items rule.times.items s
IsClosedBy Closed Also rule WasOpen WasClosed s = WasClosed ⊎ InSpans rule.kinds.items rule.times.items s
IsClosedBy Closed Fallback rule WasOpen WasClosed s =
    WasClosed ⊎ (InSpans rule.kinds.items rule.times.items s × (WasOpen → ⊥))

-- the second is open after the rules one after another
abbrev pub IsOpenAfter : List Rule → Type 0 → Type 0 → ℤ → Type 0
IsOpenAfter [] WasOpen WasClosed s = WasOpen
IsOpenAfter (rule ∷ rules) WasOpen WasClosed s =
    IsOpenAfter rules (IsOpenBy rule.modifier rule.link rule WasOpen WasClosed s)
    (IsClosedBy rule.modifier rule.link rule WasOpen WasClosed s) s

-- the hours are open at the second: nothing is said of it before the first rule
abbrev pub IsOpen : Hours → ℤ → Type 0
IsOpen hours s = IsOpenAfter hours.rules.items ⊥ ⊥ s
