-- What a domain looks like for which rules are found. Not in this form are the translations of ranges of dates with years, of
-- ranges of dates that begin after the 28th of a month or end on 29 February, and of lists that have, behind their first
-- selector, one of several basic domains.
use Rattle.std.specs.Prelude.{◌≡◌, ◌↔◌, ◌⊎◌, ℕ, ◌+◌, ◌-◌, ◌*◌, ◌/◌, ◌%◌, ◌^◌, ◌<◌, ◌≤◌, ◌==◌, if◌then◌else◌, Some, None}
use Rattle.gtd_core.specs.declared.domain.Op.TheVariants.{Union, Minus, Meet}
use Rattle.gtd_core.specs.declared.start.StartParts.{StartParts}
use Rattle.gtd_core.specs.declared.duration.DurationParts.{DurationParts}
use Rattle.gtd_core.specs.Ranges.{bound_of}
use Rattle.gtd_core.specs.Trees.{Tree}
use Rattle.gtd_core.specs.Trees.Tree.{Single, Joined}
use Rattle.gtd_hours.specs.Cost.{IsOneStretch, common_length, month_after}
use Rattle.gtd_hours.specs.Opening.{IsRound}
use Rattle.gtd_hours.specs.Ranges.{end_of}
use Rattle.gtd_hours.specs.declared.hours.MonthDay.{MonthDay}
use Rattle.gtd_hours.specs.declared.hours.Selector.{Selector}
use Rattle.gtd_hours.specs.declared.hours.Selector.TheVariants as selector
use Rattle.gtd_hours.specs.declared.hours.TimeRange.{TimeRange}
use Rattle.gtd_hours.specs.declared.hours.Weekdays.{Weekdays}

-- ---- the selectors that are found

abbrev pub AreYears : ℕ → ℕ → ℕ → Selector → Type 0
AreYears first last step (selector.Years x) = (x.first ≡ first) × (x.last ≡ last) × (x.step ≡ step)
AreYears first last step x = ⊥

abbrev pub AreWeeks : ℕ → ℕ → ℕ → Selector → Type 0
AreWeeks first last step (selector.Weeks x) = (x.first ≡ first) × (x.last ≡ last) × (x.step ≡ step)
AreWeeks first last step x = ⊥

-- ---- counts of months and days

-- so many months from the first to the last of a range, with both
abbrev pub IsMonthCount : ℕ → ℕ → ℕ → Type 0
IsMonthCount first last count =
    ((first ≤ last) × (count + first ≡ last + 1)) ⊎ ((last < first) × (count + first ≡ last + 13))

-- a month that comes so many months later, in the same year or the next
abbrev pub ReachesMonth : ℕ → ℕ → ℕ → Type 0
ReachesMonth first last months = (first + months ≡ last) ⊎ (first + months ≡ last + 12)

-- So many months and then days from a date on end with a later one: in the month that they reach, or in the one after it.
abbrev pub IsStretch : MonthDay → MonthDay → ℕ → ℕ → Type 0
IsStretch first last months days =
    (ReachesMonth first.month last.month months × (first.day + days ≡ last.day + 1))
    ⊎ ((before : ℕ) × (1 ≤ before) × (before ≤ 12) × (month_after before ≡ last.month)
    × ReachesMonth first.month before months × (first.day + days ≡ common_length before + last.day + 1))

-- ---- weekdays

abbrev pub weekday_before : ℕ → ℕ
weekday_before k = if k == 1 then 7 else k - 1

abbrev pub weekday_after : ℕ → ℕ
weekday_after k = if k == 7 then 1 else k + 1

-- the bit of a weekday, from Sunday on
abbrev pub HasWeekday : ℕ → ℕ → Type 0
HasWeekday bits weekday = bits / 2 ^ (weekday - 1) % 2 ≡ 1

-- the weekday has its bit, and the day before it, or after it, has not
abbrev pub Begins : ℕ → ℕ → Type 0
Begins bits k = HasWeekday bits k × (HasWeekday bits (weekday_before k) → ⊥)

abbrev pub Ends : ℕ → ℕ → Type 0
Ends bits k = HasWeekday bits k × (HasWeekday bits (weekday_after k) → ⊥)

-- the bits are those of a range of weekdays
abbrev pub AreWeekdays : ℕ → Weekdays → Type 0
AreWeekdays bits days =
    (bits < 128) × ((k : ℕ) → 1 ≤ k → k ≤ 7 → HasWeekday bits k ↔ IsRound days.first days.last k)

-- ---- days

-- no date and no week is given; and no place in the month
abbrev pub NamesNoDate : StartParts → Type 0
NamesNoDate p = (p.year ≡ None) × (p.month ≡ None) × (p.week ≡ None)

abbrev pub NamesNoDay : StartParts → Type 0
NamesNoDay p = NamesNoDate p × (p.nth ≡ None) × (p.nth_back ≡ None) × (p.weekdays ≡ 0)

abbrev pub IsEachDay : StartParts → DurationParts → Type 0
IsEachDay p d = NamesNoDay p × (d.days ≡ 1)

-- A basic domain has the days of a selector. Of a range of dates with years, and of days that move, it is not said.
abbrev pub IsLeafOf : Selector → StartParts → DurationParts → Type 0
IsLeafOf (selector.Years x) p d = (p.year ≡ Some x.first) × (x.first + d.years ≡ x.last + 1)
IsLeafOf (selector.Weeks x) p d = (p.year ≡ None) × (p.week ≡ Some x.first) × (x.first + d.weeks ≡ x.last + 1)
IsLeafOf (selector.Months x) p d =
    (p.year ≡ None) × (p.week ≡ None) × (p.month ≡ Some x.first) × (p.day ≡ Some 1) × (d.days ≡ 0)
    × IsMonthCount x.first x.last d.months
IsLeafOf (selector.Dates x) p d =
    (p.year ≡ None) × (p.week ≡ None) × (p.month ≡ Some x.first.month) × (p.day ≡ Some x.first.day) × (d.months ≤ 12)
    × IsOneStretch x.first x.last × IsStretch x.first x.last d.months d.days
IsLeafOf (selector.Dated x) p d = ⊥
IsLeafOf (selector.Weekdays x) p d =
    NamesNoDate p × (p.nth ≡ None) × (p.nth_back ≡ None) × AreWeekdays p.weekdays x
IsLeafOf (selector.Nth x) p d = NamesNoDate p × (p.nth ≡ Some (x.number, x.weekday))
IsLeafOf (selector.NthBack x) p d = NamesNoDate p × (p.nth ≡ None) × (p.nth_back ≡ Some (x.number, x.weekday))
IsLeafOf (selector.Moved x) p d = ⊥
IsLeafOf (selector.Moving x) p d = ⊥
IsLeafOf (selector.Yearly x) p d = ⊥

abbrev pub IsDayLeaf : Tree → Type 0
IsDayLeaf (Single p d) = (x : Selector) × IsLeafOf x p d
IsDayLeaf (Joined op left right) = ⊥

-- one selector after another
abbrev pub AreDays : Tree → Type 0
AreDays (Single p d) = IsDayLeaf (Single p d)
AreDays (Joined Union left right) = AreDays left × IsDayLeaf right
AreDays (Joined op left right) = ⊥

-- one kind after another; without a kind, each day
abbrev pub AreKinds : Tree → Type 0
AreKinds (Single p d) = IsEachDay p d ⊎ IsDayLeaf (Single p d)
AreKinds (Joined Meet left right) = AreKinds left × AreDays right
AreKinds (Joined Union left right) = AreDays (Joined Union left right)
AreKinds (Joined Minus left right) = ⊥

-- ---- times

-- a basic domain lasts some minutes from a clock of each day on: those of a range of times
pub record IsClockOf (time : TimeRange) (p : StartParts) (d : DurationParts) : Type 0 where
  pub no_day : NamesNoDay p
  pub no_day_of_month : p.day ≡ None
  pub hour : ℕ
  pub minute : ℕ
  pub hour_is : p.hour ≡ Some hour
  pub minute_is : p.minute ≡ Some minute
  pub begin : 60 * hour + minute ≡ time.begin
  pub minutes : time.begin + d.minutes ≡ end_of time.begin time.last

abbrev pub IsClock : Tree → Type 0
IsClock (Single p d) = (time : TimeRange) × IsClockOf time p d
IsClock (Joined op left right) = ⊥

-- one that ends on a later day
abbrev pub IsLateClock : Tree → Type 0
IsLateClock (Single p d) = (time : TimeRange) × IsClockOf time p d × (1440 < end_of time.begin time.last)
IsLateClock (Joined op left right) = ⊥

-- one range of times after another
abbrev pub AreClocks : Tree → Type 0
AreClocks (Single p d) = IsClock (Single p d)
AreClocks (Joined Union left right) = AreClocks left × IsClock right
AreClocks (Joined op left right) = ⊥

-- ---- rules

-- days of their own, with a range of times that ends on a later day
abbrev pub IsLate : Tree → Type 0
IsLate (Joined Meet days clock) = IsLateClock clock
IsLate e = ⊥

-- the spans of a rule: its days; its days with times; or these and then ranges that end on a later day
abbrev pub AreSpans : Tree → Type 0
AreSpans (Single p d) = AreKinds (Single p d)
AreSpans (Joined Meet left right) = AreKinds left × (AreClocks right ⊎ AreDays right)
AreSpans (Joined Union left right) = (AreSpans left × IsLate right) ⊎ AreDays (Joined Union left right)
AreSpans (Joined Minus left right) = ⊥

-- one rule after another, which adds its spans or takes them away; or nothing, which is never open
abbrev pub AreRules : Tree → Type 0
AreRules (Single p d) = (bound_of d ≡ 0) ⊎ AreSpans (Single p d)
AreRules (Joined Meet left right) = AreSpans (Joined Meet left right)
AreRules (Joined Union left right) = AreRules left × AreSpans right
AreRules (Joined Minus left right) = AreRules left × AreSpans right
