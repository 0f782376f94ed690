-- On which day of a year a day that each year has is, and when two such days make a range.
use Rattle.std.specs.Prelude.{◌≡◌, ◌⊎◌, ℕ, ◌+◌, ◌-◌, ◌*◌, ◌/◌, ◌%◌, Bool, true, false, if◌then◌else◌}
use Rattle.std.specs.Prelude.{ℤ, pos, ◌+ℤ◌, ◌-ℤ◌, ◌≤ℤ◌, ◌<ℤ◌, unsigned_abs}
use Rattle.gtd_calendar.specs.Calendar.{day_number, month_length, weekday_of}
use Rattle.gtd_hours2.specs.declared.values.DayOffset.{DayOffset}
use Rattle.gtd_hours2.specs.declared.values.YearlyDay.{YearlyDay}
use Rattle.gtd_hours2.specs.declared.values.YearlyDay.TheVariants as yearly

abbrev pub moved : DayOffset → ℤ → ℤ
moved o n = if o.is_before then n -ℤ pos o.days else n +ℤ pos o.days

-- how many days after one weekday another comes
abbrev pub days_to : ℕ → ℕ → ℕ
days_to from weekday = (weekday + 7 - from) % 7

abbrev pub from_front : ℤ → ℕ → ℕ → ℤ
from_front first weekday number = first +ℤ pos (days_to (weekday_of first) weekday + 7 * (number - 1))

abbrev pub from_back : ℤ → ℕ → ℕ → ℤ
from_back last weekday number = last -ℤ pos (days_to weekday (weekday_of last) + 7 * (number - 1))

-- one of the weekdays of a month of a year, counted from the end of the month or from its beginning
abbrev pub nth_weekday : Bool → ℤ → ℕ → ℕ → ℕ → ℤ
nth_weekday false y month weekday number = from_front (day_number y month 1) weekday number
nth_weekday true y month weekday number = from_back (day_number y month (month_length y month)) weekday number

-- Easter Sunday of the Gregorian calendar, by the rule of Meeus, Jones and Butcher
abbrev pub moon : ℕ → ℕ
moon y = (19 * (y % 19) + (y / 100 - y / 100 / 4) - (y / 100 - (y / 100 + 8) / 25 + 1) / 3 + 15) % 30

abbrev pub week_after : ℕ → ℕ
week_after y = (32 + 2 * (y / 100 % 4) + 2 * (y % 100 / 4) - moon y - y % 100 % 4) % 7

abbrev pub after_equinox : ℕ → ℕ
after_equinox y = moon y + week_after y - 7 * ((y % 19 + 11 * moon y + 22 * week_after y) / 451)

abbrev pub easter_in : ℕ → ℤ
easter_in y = day_number (pos y) ((after_equinox y + 114) / 31) ((after_equinox y + 114) % 31 + 1)

-- Easter is needed in years of the calendar alone.
abbrev pub day_in : YearlyDay → ℤ → ℤ
day_in (yearly.Date month day) y = day_number y month day
day_in (yearly.NthWeekday month weekday number is_back offset) y = moved offset (nth_weekday is_back y month weekday number)
day_in (yearly.Easter offset) y = moved offset (easter_in (unsigned_abs y))

-- ---- ranges without years

abbrev pub is_date : YearlyDay → Bool
is_date (yearly.Date month day) = true
is_date other = false

abbrev pub is_easter : YearlyDay → Bool
is_easter (yearly.Easter offset) = true
is_easter other = false

-- 29 February is not in each year
abbrev pub IsYearly : YearlyDay → Type 0
IsYearly e = e ≡ yearly.Date 2 29 → ⊥

abbrev pub final_year : Bool → ℤ → ℤ
final_year over y = if over then y +ℤ pos 1 else y

-- In each year the range is from the first day to the last one of the same year, or of the next, and ends before the next begins.
pub record AreInOrder (over : Bool) (first last : YearlyDay) : Type 0 where
  pub yearly : IsYearly first × IsYearly last
  pub same : (y : ℤ) → pos 1800 ≤ℤ y → y ≤ℤ pos 2799 → (over ≡ false → day_in first y ≤ℤ day_in last y)
      × (over ≡ true → day_in last y <ℤ day_in first y)
  pub next : (y : ℤ) → pos 1800 ≤ℤ y → final_year over y ≤ℤ pos 2799 → (day_in first y ≤ℤ day_in last (final_year over y))
      × (day_in last (final_year over y) <ℤ day_in first (y +ℤ pos 1))

-- dates alone may go back, in which case they are of two years
abbrev pub MakeRange : YearlyDay → YearlyDay → Type 0
MakeRange first last = ((is_date first ≡ true) × (is_date last ≡ true)) ⊎ ((over : Bool) × AreInOrder over first last)
