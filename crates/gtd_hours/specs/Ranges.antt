-- Which values the parts of opening hours have.
use Rattle.std.specs.Prelude.{◌≡◌, ℕ, ◌+◌, ◌*◌, ◌<◌, ◌≤◌, nat_lt, Bool, true, if◌then◌else◌, pos, ◌+ℤ◌, ◌≤ℤ◌, ◌<ℤ◌}
use Rattle.gtd_calendar.specs.Calendar.{IsCalendarYear, IsDate, day_number}

-- a weekday: Sunday is 1 and Saturday 7
abbrev pub IsWeekday : ℕ → Type 0
IsWeekday k = (1 ≤ k) × (k ≤ 7)

-- a weekday, and its place in the month: the first to the fifth
abbrev pub IsWeekdayPlace : ℕ → ℕ → Type 0
IsWeekdayPlace weekday number = IsWeekday weekday × (1 ≤ number) × (number ≤ 5)

-- A place of a weekday that each month has, and at most 27 days after it or before it. Days before a place back from the
-- end are such that the place they are counted on from, which is that many weeks further back, is in each month, too.
abbrev pub IsMovable : ℕ → Bool → ℕ → Bool → Type 0
IsMovable number back days before =
    (number ≤ 4) × (days ≤ 27) × (before ≡ true → 1 ≤ days) × (before ≡ true → back ≡ true → 7 * number + days ≤ 28)

-- every so many years, from one of the calendar's to the same or a later one
abbrev pub IsYears : ℕ → ℕ → ℕ → Type 0
IsYears first last step = (1800 ≤ first) × (first ≤ last) × (last ≤ 2799) × (1 ≤ step) × (step ≤ 9999)

-- every so many weeks, from one to the same or a later one
abbrev pub IsWeeks : ℕ → ℕ → ℕ → Type 0
IsWeeks first last step = (1 ≤ first) × (first ≤ last) × (last ≤ 53) × (1 ≤ step) × (step ≤ 9999)

-- a month
abbrev pub IsMonth : ℕ → Type 0
IsMonth month = (1 ≤ month) × (month ≤ 12)

-- a month, and a day that it has at least in leap years, of which 2000 is one
abbrev pub IsMonthDay : ℕ → ℕ → Type 0
IsMonthDay month day = IsDate (pos 2000) month day

-- a date of the calendar that is computed with
abbrev pub IsYearDate : ℕ → ℕ → ℕ → Type 0
IsYearDate year month day = IsCalendarYear (pos year) × IsDate (pos year) month day

-- from a date to the same or a later one, at most 36,600 days with both
abbrev pub IsDatedRange : ℕ → ℕ → ℕ → ℕ → ℕ → ℕ → Type 0
IsDatedRange year month day last_year last_month last_day =
    (day_number (pos year) month day ≤ℤ day_number (pos last_year) last_month last_day)
    × (day_number (pos last_year) last_month last_day <ℤ (day_number (pos year) month day +ℤ pos 36600))

-- Days of each of some years, at most a hundred: from a date on that each year has, as 2001 is no leap year, and at most 366.
abbrev pub IsYearlyDays : ℕ → ℕ → ℕ → ℕ → ℕ → Type 0
IsYearlyDays first last month day days =
    (1800 ≤ first) × (first ≤ last) × (last ≤ 2799) × (last < first + 100) × IsDate (pos 2001) month day
    × (1 ≤ days) × (days ≤ 366)

-- the minute at which a range of times ends: on the next day, where it would not be after the first one
abbrev pub end_of : ℕ → ℕ → ℕ
end_of begin last = if nat_lt begin last then last else last + 1440

-- a range of times begins on its day and lasts a day at most
abbrev pub IsTimeRange : ℕ → ℕ → Type 0
IsTimeRange begin last = (begin < 1440) × (end_of begin last ≤ begin + 1440)

-- the hour and the minute of a clock
abbrev pub IsClock : ℕ → ℕ → Type 0
IsClock hour minute = (hour < 24) × (minute < 60)
