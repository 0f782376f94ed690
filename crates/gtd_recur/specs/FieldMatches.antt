-- Which seconds a start matches, by the fields that the calendar gives of a day and by the levels of the table of fields: 0 the
-- year, 1 the month and the week, 2 the day, 3 the hour, 4 the minute, 5 the second. What is computed is compared with this. A
-- law of this crate says that these are the seconds of `Matches`.
use Rattle.std.specs.Prelude.{◌≡◌, ◌⊎◌, ℕ, ◌-◌, ◌/◌, ◌%◌, ◌^◌, ◌<◌, Bool, true, false, if◌then◌else◌, is_some, ℤ, pos, IfSome}
use Rattle.gtd_core.specs.declared.start.StartParts.{StartParts}
use Rattle.gtd_core.specs.FieldTable.{finest_level}
use Rattle.gtd_calendar.specs.declared.day.DayFields.{DayFields}
use Rattle.gtd_calendar.specs.Clock.{IsTimeOf}
use Rattle.gtd_calendar.specs.Calendar.{AreFieldsOf}

-- the weekday is one of those that are given, of which bit k - 1 stands for the weekday k
abbrev pub IsGivenWeekday : ℕ → ℕ → Type 0
IsGivenWeekday weekdays weekday = weekdays / 2 ^ (weekday - 1) % 2 ≡ 1

-- Each given field of the levels down to the day holds on a day with the fields f. A year is that of the week if a week
-- is given; a place in the month is a number and a weekday; several weekdays are alternatives.
pub record HoldsOnDay (p : StartParts) (f : DayFields) : Type 0 where
  pub year : IfSome p.year (λ y. pos y ≡ (if is_some p.week then f.week_year else f.year))
  pub month : IfSome p.month (λ m. m ≡ f.month)
  pub week : IfSome p.week (λ w. w ≡ f.week)
  pub day : IfSome p.day (λ d. d ≡ f.day)
  pub nth : IfSome p.nth (λ x. (x.0 ≡ f.nth) × (x.1 ≡ f.weekday))
  pub nth_back : IfSome p.nth_back (λ x. (x.0 ≡ f.nth_back) × (x.1 ≡ f.weekday))
  pub weekdays : (p.weekdays ≡ 0) ⊎ IsGivenWeekday p.weekdays f.weekday

-- each given field of the clock holds at hour h, minute m and second s
pub record HoldsOnClock (p : StartParts) (h m s : ℕ) : Type 0 where
  pub hour : IfSome p.hour (λ x. x ≡ h)
  pub minute : IfSome p.minute (λ x. x ≡ m)
  pub second : IfSome p.second (λ x. x ≡ s)

-- Each level finer than a given one is at its least, on a day with the fields f, at hour h, minute m and second s. The
-- day's least is the Monday, weekday 2, if a week is given, and otherwise the first of the month; the month's is January.
pub record IsLeastBelow (level : ℕ) (week : Bool) (f : DayFields) (h m s : ℕ) : Type 0 where
  pub second : level < 5 → s ≡ 0
  pub minute : level < 4 → m ≡ 0
  pub hour : level < 3 → h ≡ 0
  pub monday : level < 2 → week ≡ true → f.weekday ≡ 2
  pub first : level < 2 → week ≡ false → f.day ≡ 1
  pub january : level < 1 → f.month ≡ 1

-- The second is one that the start matches: it is at some hour, minute and second of some day: each given field holds, and each
-- level finer than all given ones is at its least. A coarser level without a field is free.
pub record MatchesFields (p : StartParts) (s : ℤ) : Type 0 where
  pub day : ℤ
  pub hour : ℕ
  pub minute : ℕ
  pub second : ℕ
  pub time : IsTimeOf s day hour minute second
  pub fields : DayFields
  pub shown : AreFieldsOf day fields
  pub on : HoldsOnDay p fields
  pub at : HoldsOnClock p hour minute second
  pub least : IsLeastBelow (finest_level p) (is_some p.week) fields hour minute second
