-- How many basic domains the translation of opening hours has.
use Rattle.std.specs.Prelude.{ℕ, ◌+◌, ◌-◌, ◌/◌, ◌==◌, ◌&&◌, ◌||◌, ◌≤◌, ◌≢◌, ◌⊎◌, not, Bool, true, false, nat_lt, nat_le}
use Rattle.std.specs.Prelude.{if◌then◌else◌, max, min}
use Rattle.std.specs.Prelude.{List, [], ◌∷◌}
use Rattle.gtd_hours.specs.Moving.{days_on, end_days, months_between}
use Rattle.gtd_hours.specs.Ranges.{end_of}
use Rattle.gtd_hours.specs.declared.places.End.{End}
use Rattle.gtd_hours.specs.declared.hours.Selector.{Selector}
use Rattle.gtd_hours.specs.declared.hours.Selector.TheVariants.{Years, Months, Dates, Dated, Weeks, Weekdays, Nth, NthBack}
use Rattle.gtd_hours.specs.declared.hours.Selector.TheVariants.{Moved, Moving, Yearly}
use Rattle.gtd_hours.specs.declared.hours.MonthDay.{MonthDay}
use Rattle.gtd_hours.specs.declared.hours.Kind.{Kind}
use Rattle.gtd_hours.specs.declared.hours.TimeRange.{TimeRange}
use Rattle.gtd_hours.specs.declared.hours.Link.{Link}
use Rattle.gtd_hours.specs.declared.hours.Link.TheVariants.{Instead, Also, Fallback}
use Rattle.gtd_hours.specs.declared.hours.Modifier.{Modifier}
use Rattle.gtd_hours.specs.declared.hours.Modifier.TheVariants.{Open, Closed}
use Rattle.gtd_hours.specs.declared.hours.Rule.{Rule}
use Rattle.gtd_hours.specs.declared.hours.Hours.{Hours}
use Rattle.gtd_hours.specs.declared.hours.YearlyDays.{YearlyDays}

-- a count as it is computed: one that is greater than this stays at it
abbrev pub most_counted : ℕ
most_counted = 4_294_967_295

abbrev pub counted : ℕ → ℕ
counted n = min n most_counted

-- every so many numbers, each by itself
abbrev pub steps_cost : ℕ → ℕ → ℕ → ℕ
steps_cost first last step = (last - first) / step + 1

-- years: a stretch for each hundred years, or one for each of every so many
abbrev pub years_cost : ℕ → ℕ → ℕ → ℕ
years_cost first last step = steps_cost first last (if step == 1 then 100 else step)

-- weeks: a stretch, and week 53 by itself; or one for each of every so many
abbrev pub weeks_cost : ℕ → ℕ → ℕ → ℕ
weeks_cost first last step =
    if step == 1 then (if nat_lt first 53 && (last == 53) then 2 else 1) else steps_cost first last step

-- days of one month: a stretch, and 29 February by itself
abbrev pub month_cost : ℕ → ℕ → ℕ → ℕ
month_cost month low high = if (month == 2) && (nat_lt low 29 && nat_lt 28 high) then 2 else 1

-- the month after another
abbrev pub month_after : ℕ → ℕ
month_after month = if month == 12 then 1 else month + 1

-- the days that a month has in each year
abbrev pub common_length : ℕ → ℕ
common_length month = if month == 2 then 28 else if (month == 4) || (month == 6) || (month == 9) || (month == 11) then 30 else 31

-- One stretch of months and days reaches from the first date to the last one: each year has both, a move by months keeps
-- the first day, and the last month, if it is reached by days, comes after one that is as long in each year.
abbrev pub IsOneStretch : MonthDay → MonthDay → Type 0
IsOneStretch first last =
    (first.day ≤ 28) × (last.day ≤ common_length last.month) × ((first.day ≤ last.day + 1) ⊎ (last.month ≢ 3))

abbrev pub is_one_stretch : MonthDay → MonthDay → Bool
is_one_stretch first last =
    nat_le first.day 28
    && (nat_le last.day (common_length last.month)
    && (nat_le first.day (last.day + 1) || not (last.month == 3)))

-- a range of dates: one stretch; or days within one month; or the rest of the first month, the months between, and the
-- beginning of the last month
abbrev pub dates_cost : MonthDay → MonthDay → ℕ
dates_cost first last =
    if is_one_stretch first last then 1
    else if (first.month == last.month) && nat_le first.day last.day then month_cost first.month first.day last.day
    else
    (month_cost first.month first.day 31 + (if month_after first.month == last.month then 0 else 1)
    + month_cost last.month 1 last.day)

-- a place with days from it: the days up to that day without those before it
abbrev pub moved_cost : Bool → ℕ → ℕ
moved_cost before days = if days_on before days == 0 then 1 else 2

-- a range that moves: from its first day on, without what comes after its last one; or all days without those between two
abbrev pub moving_cost : Bool → End → End → ℕ
moving_cost over first last =
    (if end_days first == 0 then 3 else 4) + (if nat_le (months_between over first last) 10 then 0 else 1)

abbrev pub selector_cost : Selector → ℕ
selector_cost (Years years) = years_cost years.first years.last years.step
selector_cost (Months months) = 1
selector_cost (Dates dates) = dates_cost dates.first dates.last
selector_cost (Dated dates) = 1
selector_cost (Weeks weeks) = weeks_cost weeks.first weeks.last weeks.step
selector_cost (Weekdays days) = 1
selector_cost (Nth place) = 1
selector_cost (NthBack place) = 1
selector_cost (Moved place) = moved_cost place.is_before place.days
selector_cost (Moving range) = moving_cost range.is_over range.first range.last
selector_cost (Yearly days) = 1

-- the next selector has days of the same years
abbrev pub goes_on : YearlyDays → List Selector → Bool
goes_on x [] = false
goes_on x (Yearly y ∷ xs) = (x.first == y.first) && (x.last == y.last)
goes_on x (y ∷ xs) = false

-- the years of days that come each year: once for all that stand one behind another
abbrev pub met_cost : Selector → List Selector → ℕ
met_cost (Yearly x) xs = if goes_on x xs then 0 else 1
met_cost x xs = 0

abbrev pub selectors_cost : List Selector → ℕ
selectors_cost [] = 0
selectors_cost (x ∷ xs) = selector_cost x + met_cost x xs + selectors_cost xs

-- all that are given are met; nothing takes one basic domain, and so do all days
abbrev pub kinds_cost : List Kind → ℕ
kinds_cost [] = 0
kinds_cost (kind ∷ kinds) = max 1 (selectors_cost kind.selectors.items) + kinds_cost kinds

abbrev pub days_cost : List Kind → ℕ
days_cost kinds = max 1 (kinds_cost kinds)

-- ranges of times that end on their day take one each
abbrev pub early_cost : List TimeRange → ℕ
early_cost [] = 0
early_cost (t ∷ ts) = (if nat_le (end_of t.begin t.last) 1440 then 1 else 0) + early_cost ts

-- and share the days; each other one has the days for itself
abbrev pub late_cost : ℕ → List TimeRange → ℕ
late_cost days [] = 0
late_cost days (t ∷ ts) = (if nat_le (end_of t.begin t.last) 1440 then 0 else days + 1) + late_cost days ts

-- the spans of a rule
abbrev pub spans_cost : ℕ → List TimeRange → ℕ
spans_cost days [] = days
spans_cost days (t ∷ ts) =
    (if early_cost (t ∷ ts) == 0 then 0 else days + early_cost (t ∷ ts)) + late_cost days (t ∷ ts)

abbrev pub rule_cost : Rule → ℕ
rule_cost rule = spans_cost (days_cost rule.kinds.items) rule.times.items

-- What is open after a rule, if what was open before it takes n, and what was said to be closed takes c: nothing is taken away
-- from where nothing was.
abbrev pub open_cost_by : Modifier → Link → Rule → ℕ → ℕ → ℕ
open_cost_by Open Instead rule n c = if n == 0 then rule_cost rule else n + days_cost rule.kinds.items + rule_cost rule
open_cost_by Open Also rule n c = n + rule_cost rule
open_cost_by Open Fallback rule n c = n + rule_cost rule + c
open_cost_by Closed Instead rule n c = if n == 0 then 0 else n + rule_cost rule
open_cost_by Closed Also rule n c = if n == 0 then 0 else n + rule_cost rule
open_cost_by Closed Fallback rule n c = n

-- one of the ranges of times ends on a later day
abbrev pub ends_late : List TimeRange → Bool
ends_late [] = false
ends_late (t ∷ ts) = not (nat_le (end_of t.begin t.last) 1440) || ends_late ts

-- The days of a rule, without which its spans say nothing more, unless they end on a later day.
abbrev pub unsaid_cost : Rule → ℕ
unsaid_cost rule = days_cost rule.kinds.items + (if ends_late rule.times.items then rule_cost rule else 0)

-- what is said to be closed after a rule
abbrev pub closed_cost_by : Modifier → Link → Rule → ℕ → ℕ → ℕ
closed_cost_by Open Instead rule n c = if c == 0 then 0 else c + unsaid_cost rule
closed_cost_by Open Also rule n c = if c == 0 then 0 else c + rule_cost rule
closed_cost_by Open Fallback rule n c = c
closed_cost_by Closed Instead rule n c = c + rule_cost rule
closed_cost_by Closed Also rule n c = c + rule_cost rule
closed_cost_by Closed Fallback rule n c = c + rule_cost rule + n

-- an open fallback rule
abbrev pub falls_back : Modifier → Link → Bool
falls_back Open Fallback = true
falls_back Open Instead = false
falls_back Open Also = false
falls_back Closed link = false

abbrev pub some_falls_back : List Rule → Bool
some_falls_back [] = false
some_falls_back (rule ∷ rules) = falls_back rule.modifier rule.link || some_falls_back rules

-- After rules one after another. What is said to be closed is of use up to the last open fallback rule.
abbrev pub cost_after : List Rule → ℕ → ℕ → ℕ
cost_after [] n c = n
cost_after (rule ∷ rules) n c =
    cost_after rules (open_cost_by rule.modifier rule.link rule n c)
    (if some_falls_back rules then closed_cost_by rule.modifier rule.link rule n c else 0)

-- hours that are never open take one
abbrev pub hours_cost : Hours → ℕ
hours_cost hours = max 1 (cost_after hours.rules.items 0 0)
