-- The days of places of weekdays, and of the ends of ranges that move, computed. Facts of this crate say that these are the
-- days, and that there are no others.
use Rattle.std.specs.Prelude.{ℕ, ◌+◌, ◌-◌, ◌*◌, ◌%◌, Bool, if◌then◌else◌, ℤ, pos, ◌+ℤ◌, ◌-ℤ◌, ◌≤ℤ◌, ◌<ℤ◌}
use Rattle.gtd_calendar.specs.Calendar.{day_number, month_length, weekday_of}
use Rattle.gtd_hours.specs.declared.places.End.{End}
use Rattle.gtd_hours.specs.declared.places.End.TheVariants.{Date, Place}
use Rattle.gtd_hours.specs.Moving.{day_from, last_year}

-- the place of a weekday among some days, counted from the first of them or back from the last
abbrev pub place_between : Bool → ℕ → ℕ → ℤ → ℤ → ℤ
place_between back weekday number first last =
    if back then last -ℤ pos ((weekday_of last + 7 - weekday) % 7 + 7 * (number - 1))
    else first +ℤ pos ((weekday + 7 - weekday_of first) % 7 + 7 * (number - 1))

-- the place of a weekday in a month
unfoldable pub place_day : Bool → ℕ → ℕ → ℤ → ℕ → ℤ
place_day back weekday number y m =
    place_between back weekday number (day_number y m 1) (day_number y m (month_length y m))

-- the day of an end in a year that has it
abbrev pub end_day : End → ℤ → ℤ
end_day (Date date) y = day_number y date.month date.day
end_day (Place x) y =
    day_from x.place.is_before x.place.days
    (place_day x.place.is_back x.place.place.weekday x.place.place.number y x.month)

-- the range that begins in a year does not end before that, and ends before the next one begins
abbrev pub IsInOrder : Bool → End → End → ℤ → Type 0
IsInOrder over first last y =
    (end_day first y ≤ℤ end_day last (last_year over y))
    × (end_day last (last_year over y) <ℤ end_day first (y +ℤ pos 1))
