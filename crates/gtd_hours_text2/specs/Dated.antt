-- In which years days of each year are computed with.
use Rattle.std.specs.Prelude.{ℕ, ◌&&◌, nat_le, Bool, true}
use Rattle.gtd_hours2.specs.declared.values.YearlyDay.{YearlyDay}
use Rattle.gtd_hours2.specs.declared.values.YearlyDay.TheVariants as yearly

abbrev pub is_in : ℕ → ℕ → ℕ → Bool
is_in low high k = nat_le low k && nat_le k high

abbrev pub is_year : ℕ → Bool
is_year y = is_in 1800 2799 y

-- Each month and weekday of a text is one of these.
abbrev pub is_sound : YearlyDay → Bool
is_sound (yearly.Date month day) = is_in 1 12 month
is_sound (yearly.NthWeekday month weekday number is_back offset) = is_in 1 12 month && is_in 1 7 weekday && is_in 1 4 number
is_sound (yearly.Easter offset) = true
