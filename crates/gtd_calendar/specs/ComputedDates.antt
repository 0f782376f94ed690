-- The date and the week of a day, computed. A law of this crate says that these are the day's, and that there are no
-- others.
use Rattle.std.specs.Prelude.{ℕ, zero, suc, ◌+◌, ◌-◌, ◌/◌, nat_le, if◌then◌else◌, ℤ, pos, ◌+ℤ◌, ◌-ℤ◌, ◌*ℤ◌}
use Rattle.std.specs.Prelude.{unsigned_abs, int_lt}
use Rattle.std.specs.Int.{int_div_euclid}
use Rattle.gtd_calendar.specs.Calendar.{days_of_months, first_day, thursday_of}

-- the year, guessed by the mean length of a year; it is wrong by at most one
abbrev pub guessed_year : ℤ → ℤ
guessed_year n = pos 1970 +ℤ int_div_euclid (pos 400 *ℤ n) (pos 146_097)

-- the year of a day
unfoldable pub year_of : ℤ → ℤ
year_of n =
    if int_lt n (first_day (guessed_year n)) then guessed_year n -ℤ pos 1
    else (if int_lt n (first_day (guessed_year n +ℤ pos 1)) then guessed_year n else guessed_year n +ℤ pos 1)

-- the place of a day in its year, from 0
unfoldable pub place_in_year : ℤ → ℕ
place_in_year n = unsigned_abs (n -ℤ first_day (year_of n))

-- of the first n months, the last that begins at or before a place in the year
unfoldable pub last_begun : ℤ → ℕ → ℕ → ℕ
last_begun y k zero = 0
last_begun y k (suc n) = if nat_le (days_of_months y n) k then suc n else last_begun y k n

-- the month of a day, and the day of the month
unfoldable pub month_of : ℤ → ℕ
month_of n = last_begun (year_of n) (place_in_year n) 12

unfoldable pub day_of_month : ℤ → ℕ
day_of_month n = place_in_year n - days_of_months (year_of n) (month_of n - 1) + 1

-- the year and the number of a day's week
abbrev pub week_year_of : ℤ → ℤ
week_year_of n = year_of (thursday_of n)

abbrev pub week_of : ℤ → ℕ
week_of n = place_in_year (thursday_of n) / 7 + 1
