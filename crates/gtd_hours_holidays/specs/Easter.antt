-- Easter Sunday of the Gregorian calendar: the Sunday after the paschal full moon, by the rule of Meeus, Jones and Butcher.
use Rattle.std.specs.Prelude.{◌≡◌, ℕ, ◌+◌, ◌-◌, ◌*◌, ◌/◌, ◌%◌, ℤ, pos}
use Rattle.gtd_calendar.specs.Calendar.{day_number}

-- how many leap days of century years are left out up to the year, and by how much the moon is late after so many centuries
abbrev pub left_out : ℕ → ℕ
left_out y = y / 100 - y / 100 / 4

abbrev pub late : ℕ → ℕ
late y = (y / 100 - (y / 100 + 8) / 25 + 1) / 3

-- the days from 21 March to the paschal full moon, by the year's place in the moon's cycle of 19 years
abbrev pub moon : ℕ → ℕ
moon y = (19 * (y % 19) + left_out y - late y + 15) % 30

-- the days from there to the last Saturday before Easter
abbrev pub week : ℕ → ℕ
week y = (32 + 2 * (y / 100 % 4) + 2 * (y % 100 / 4) - moon y - y % 100 % 4) % 7

-- 1, where the rule brings Easter a week forward, and otherwise 0
abbrev pub forward : ℕ → ℕ
forward y = (y % 19 + 11 * moon y + 22 * week y) / 451

-- the days from 22 March to Easter Sunday
abbrev pub after_equinox : ℕ → ℕ
after_equinox y = moon y + week y - 7 * forward y

-- month and day of Easter Sunday
abbrev pub easter_month : ℕ → ℕ
easter_month y = (after_equinox y + 114) / 31

abbrev pub easter_day : ℕ → ℕ
easter_day y = (after_equinox y + 114) % 31 + 1

-- day n is Easter Sunday of the year
abbrev pub IsEaster : ℕ → ℤ → Type 0
IsEaster y n = n ≡ day_number (pos y) (easter_month y) (easter_day y)
