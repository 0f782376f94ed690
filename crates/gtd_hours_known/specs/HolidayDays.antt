-- Selectors that have the days of holidays.
use Rattle.std.specs.Prelude.{◌≡◌, ◌↔◌, List, [], ◌∷◌, ℤ, pos, ⊤}
use Rattle.gtd_calendar.specs.Calendar.{day_number}
use Rattle.gtd_calendar.specs.declared.day.DayFields.{DayFields}
use Rattle.gtd_hours.specs.Opening.{SomeHolds}
use Rattle.gtd_hours.specs.declared.hours.Selector.{Selector}
use Rattle.gtd_hours.specs.declared.hours.Selector.TheVariants.{Dated, Yearly}
use Rattle.gtd_hours.specs.declared.hours.YearDate.{YearDate}
use Rattle.gtd_hours_days.specs.Listed.{CoversAll, IsUncovered, SomeListed}
use Rattle.gtd_hours_days.specs.Selections.{IsGroupingOf}
use Rattle.gtd_hours_days.specs.declared.group.Group.{Group}
use Rattle.gtd_hours_days.specs.declared.listed.Listed.{Listed}
use Rattle.gtd_hours_days.specs.declared.selection.ListedFault.{ListedFault}
use Rattle.gtd_hours_days.specs.declared.selection.ListedFault.TheVariants as fault
use Rattle.gtd_hours_holidays.specs.declared.holidays.Holidays.{Holidays}
use Rattle.gtd_hours_holidays.specs.declared.known_years.KnownYears.{KnownYears}
use Rattle.gtd_hours_holidays.specs.declared.row.HolidayRow.{HolidayRow}
use Rattle.gtd_hours_holidays.specs.declared.run.Run.{Run}

-- the day of a date
abbrev pub date_day : YearDate → ℤ
date_day date = day_number (pos date.year) date.month date.day

-- the selector is the range of dates from one day to another
abbrev pub IsRange : ℤ → ℤ → Selector → Type 0
IsRange first last (Dated x) = (date_day x.first ≡ first) × (date_day x.last ≡ last)
IsRange first last x = ⊥

-- the selectors are those of runs, one after another
abbrev pub AreRangesOf : List Run → List Selector → Type 0
AreRangesOf [] [] = Unit {0}
AreRangesOf (run ∷ runs) (x ∷ days) = IsRange run.first run.last x × AreRangesOf runs days
AreRangesOf runs days = ⊥

-- the selector has the days of a group in the years
abbrev pub IsYearlyOf : KnownYears → Group → Selector → Type 0
IsYearlyOf years group (Yearly x) =
    (x.first ≡ years.first) × (x.last ≡ years.last) × (x.month ≡ group.month) × (x.day ≡ group.day) × (x.days ≡ group.days)
IsYearlyOf years group x = ⊥

-- the selectors are those of groups, and then those of runs
abbrev pub AreWritten : KnownYears → List Group → List Run → List Selector → Type 0
AreWritten years [] dated days = AreRangesOf dated days
AreWritten years (group ∷ yearly) dated [] = ⊥
AreWritten years (group ∷ yearly) dated (x ∷ days) = IsYearlyOf years group x × AreWritten years yearly dated days

-- These days are written so: one selector for each group of days that come in each of the years, and then a range of dates for
-- each other run of consecutive days.
abbrev pub AreWrittenDays : (ℤ → Type 0) → KnownYears → List Selector → Type 0
AreWrittenDays some years days =
    (yearly : List Group) × (dated : List Run) × IsGroupingOf some years yearly dated × AreWritten years yearly dated days

-- The rows say all that the holidays need, and one of the selectors holds on a day exactly if one of the holidays does.
abbrev pub AreDaysIn : List HolidayRow → KnownYears → List Listed → List Selector → Type 0
AreDaysIn rows years listed days =
    CoversAll rows years listed
    × ((n : ℤ) (f : DayFields) → SomeHolds days n f ↔ SomeListed rows years listed n)
    × AreWrittenDays (SomeListed rows years listed) years days

-- and so the rows of a table
abbrev pub AreDaysOf : Holidays → KnownYears → List Listed → List Selector → Type 0
AreDaysOf table years listed days = AreDaysIn table.rows.items years listed days

-- why there are none: the table does not say all, or memory was refused
abbrev pub IsDaysFault : Holidays → KnownYears → List Listed → ListedFault → Type 0
IsDaysFault table years listed (fault.Uncovered found) = IsUncovered table.rows.items years listed found.place found.day
IsDaysFault table years listed fault.NoMemory = ⊤

-- ---- as the code computes it

-- the selectors are those of groups
abbrev pub AreYearlyOf : KnownYears → List Group → List Selector → Type 0
AreYearlyOf years [] [] = Unit {0}
AreYearlyOf years (group ∷ groups) (x ∷ days) = IsYearlyOf years group x × AreYearlyOf years groups days
AreYearlyOf years groups days = ⊥
