-- The end of a stretch, computed. A law of this crate says that it is the stretch's end, and that there is no other.
use Rattle.std.specs.Prelude.{ℕ, ◌+◌, ◌-◌, ◌*◌, min, ℤ, pos, ◌+ℤ◌, ◌*ℤ◌, unsigned_abs}
use Rattle.std.specs.Int.{int_div_euclid, int_rem_euclid}
use Rattle.gtd_core.specs.Limits.{day_seconds}
use Rattle.gtd_core.specs.declared.duration.DurationParts.{DurationParts}
use Rattle.gtd_core.specs.Seconds.{day_of_second}
use Rattle.gtd_core.specs.Ranges.{clock_seconds}
use Rattle.gtd_calendar.specs.Calendar.{month_length, day_number}
use Rattle.gtd_calendar.specs.Clock.{second_of_day}
use Rattle.gtd_calendar.specs.ComputedDates.{year_of, month_of, day_of_month}

-- months counted from January of the year 0
abbrev pub month_count : ℤ → ℕ → ℤ
month_count y m = pos 12 *ℤ y +ℤ pos (m - 1)

-- the year and the month at a count
abbrev pub counted_year : ℤ → ℤ
counted_year t = int_div_euclid t (pos 12)

abbrev pub counted_month : ℤ → ℕ
counted_month t = unsigned_abs (int_rem_euclid t (pos 12)) + 1

-- this day of the month at a count, or the month's last if it has no such day
unfoldable pub day_in_month : ℤ → ℕ → ℤ
day_in_month t d =
    day_number (counted_year t) (counted_month t) (min d (month_length (counted_year t) (counted_month t)))

-- a day moved by months; its day of the month is cut to the last one of the month that is reached
unfoldable pub months_later : ℤ → ℕ → ℤ
months_later n k = day_in_month (month_count (year_of n) (month_of n) +ℤ pos k) (day_of_month n)

-- the end of the stretch of duration p that begins at second b
unfoldable pub stop : DurationParts → ℤ → ℤ
stop p b =
    pos day_seconds *ℤ (months_later (day_of_second b) (12 * p.years + p.months) +ℤ pos (7 * p.weeks + p.days))
    +ℤ pos (second_of_day b + clock_seconds p)
