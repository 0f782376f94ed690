-- Days that move from year to year: places of weekdays in the month, days before and after them, and ranges between two.
use Rattle.std.specs.Prelude.{◌≡◌, ℕ, ◌+◌, ◌-◌, ◌*◌, ◌/◌, ◌==◌, ◌&&◌, ◌||◌, Bool, true, false, not, if◌then◌else◌, nat_le}
use Rattle.std.specs.Prelude.{ℤ, pos, ◌+ℤ◌, ◌-ℤ◌, ◌≤ℤ◌, ◌<ℤ◌}
use Rattle.gtd_calendar.specs.declared.day.DayFields.{DayFields}
use Rattle.gtd_calendar.specs.Calendar.{AreFieldsOf, IsDateOf}
use Rattle.gtd_hours.specs.declared.places.End.{End}
use Rattle.gtd_hours.specs.declared.places.End.TheVariants.{Date, Place}
use Rattle.gtd_hours.specs.declared.places.MovedPlace.{MovedPlace}

-- so many days after day n, or before it
abbrev pub day_from : Bool → ℕ → ℤ → ℤ
day_from before days n = if before then n -ℤ pos days else n +ℤ pos days

-- a day with the fields f has the place
abbrev pub IsAtPlace : MovedPlace → DayFields → Type 0
IsAtPlace x f = (f.weekday ≡ x.place.weekday) × ((if x.is_back then f.nth_back else f.nth) ≡ x.place.number)

-- day n is so many days after a day that has the place, or before it
abbrev pub IsMovedFrom : MovedPlace → ℤ → Type 0
IsMovedFrom x n = (m : ℤ) × (f : DayFields) × AreFieldsOf m f × IsAtPlace x f × (n ≡ day_from x.is_before x.days m)

-- Day n is the end of a range in year y: its date; or so many days after or before the place in the month of that year.
abbrev pub IsEndIn : End → ℤ → ℤ → Type 0
IsEndIn (Date date) y n = IsDateOf n y date.month date.day
IsEndIn (Place x) y n = (m : ℤ) × (f : DayFields) × AreFieldsOf m f × (f.year ≡ y) × (f.month ≡ x.month)
    × IsAtPlace x.place f × (n ≡ day_from x.place.is_before x.place.days m)

-- the end moves from year to year
abbrev pub is_place : End → Bool
is_place (Date date) = false
is_place (Place x) = true

-- each year has the end: it is not 29 February
abbrev pub is_yearly : End → Bool
is_yearly (Date date) = not ((date.month == 2) && (date.day == 29))
is_yearly (Place x) = true

-- the year of the last day of a range that begins in year y
abbrev pub last_year : Bool → ℤ → ℤ
last_year over y = if over then y +ℤ pos 1 else y

-- In each year the first day is not after its last one, and this is before the next first one.
abbrev pub AreInOrder : Bool → End → End → Type 0
AreInOrder over first last =
    ((y a b : ℤ) → IsEndIn first y a → IsEndIn last (last_year over y) b → a ≤ℤ b)
    × ((y b c : ℤ) → IsEndIn last (last_year over y) b → IsEndIn first (y +ℤ pos 1) c → b <ℤ c)

-- two ends of a range that moves, and whether it goes over the end of the year
abbrev pub IsMoving : Bool → End → End → Type 0
IsMoving over first last =
    (is_yearly first ≡ true) × (is_yearly last ≡ true) × ((is_place first || is_place last) ≡ true)
    × AreInOrder over first last

-- day n is in the range of some year
abbrev pub IsInMoving : Bool → End → End → ℤ → Type 0
IsInMoving over first last n = (y a b : ℤ) × IsEndIn first y a × IsEndIn last (last_year over y) b × (a ≤ℤ n) × (n ≤ℤ b)

-- ---- the same days with days after a place alone, as they are translated

-- How many weeks before its place the place is that the days are counted on from, and how many days these are.
abbrev pub weeks_back : Bool → ℕ → ℕ
weeks_back before days = if before then (days + 6) / 7 else 0

abbrev pub days_on : Bool → ℕ → ℕ
days_on before days = if before then 7 * weeks_back before days - days else days

-- the days that an end is after its place; a date has none
abbrev pub end_days : End → ℕ
end_days (Date date) = 0
end_days (Place x) = days_on x.place.is_before x.place.days

-- A place from the beginning of the month that would be before its first is counted back from the end of the month before.
abbrev pub leads_out : MovedPlace → Bool
leads_out x = not x.is_back && nat_le x.place.number (weeks_back x.is_before x.days)

-- the month that an end is counted from, from 1 for January of its year; 0 is the December before
abbrev pub end_month : End → ℕ
end_month (Date date) = date.month
end_month (Place x) = if leads_out x.place then x.month - 1 else x.month

-- two months more than from the month of the first end to that of the last
abbrev pub months_between : Bool → End → End → ℕ
months_between over first last = (end_month last + (if over then 14 else 2)) - end_month first
