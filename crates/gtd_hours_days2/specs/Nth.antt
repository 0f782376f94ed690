-- Weekdays of a month by their number, with days after or before them.
use Rattle.std.specs.Prelude.{◌≡◌, ℕ, ◌≤◌, Bool, ℤ, if◌then◌else◌}
use Rattle.gtd_calendar.specs.Calendar.{AreFieldsOf}
use Rattle.gtd_calendar.specs.declared.day.DayFields.{DayFields}
use Rattle.gtd_hours.specs.Ranges.{IsMovable, IsWeekdayPlace}
use Rattle.gtd_hours2.specs.Days.{moved}
use Rattle.gtd_hours2.specs.declared.values.DayOffset.{DayOffset}

-- day n is so many days after or before such a weekday
abbrev pub IsNthDay : ℕ → ℕ → Bool → DayOffset → ℤ → Type 0
IsNthDay weekday number is_back offset n = (m : ℤ) × (h : DayFields) × AreFieldsOf m h × (n ≡ moved offset m)
    × (h.weekday ≡ weekday) × ((if is_back then h.nth_back else h.nth) ≡ number)

-- a weekday and its number, from which days may be counted that each month has
abbrev pub IsNth : ℕ → ℕ → Bool → DayOffset → Type 0
IsNth weekday number is_back offset =
    IsWeekdayPlace weekday number × (1 ≤ offset.days → IsMovable number is_back offset.days offset.is_before)
