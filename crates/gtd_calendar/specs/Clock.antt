-- The clock, the end of a stretch, and the text of a second: an extended format of ISO 8601 for a local date and time of day,
-- as bytes of ASCII.
use Rattle.std.specs.Prelude.{◌≡◌, ◌<◌, ℕ, ◌+◌, ◌*◌, min, ℤ, pos, ◌+ℤ◌, ◌*ℤ◌, unsigned_abs, List, [], ◌∷◌, ◌++◌, codes, ◌/◌, ◌%◌}
use Rattle.std.specs.Int.{int_rem_euclid}
use Rattle.gtd_core.specs.declared.duration.DurationParts.{DurationParts}
use Rattle.gtd_calendar.specs.Calendar.{IsDateOf, month_length}

-- the hours, minutes and seconds of a day
abbrev pub IsClock : ℕ → ℕ → ℕ → Type 0
IsClock h m s = (h < 24) × (m < 60) × (s < 60)

-- Second s is at this hour, minute and second of day n. A law of this crate says that each second is at exactly one.
pub record IsTimeOf (s n : ℤ) (hour minute second : ℕ) : Type 0 where
  pub clock : (hour < 24) × (minute < 60) × (second < 60)
  pub is : s ≡ pos 86_400 *ℤ n +ℤ pos (3600 * hour + 60 * minute + second)

-- Day r is day n moved by k months: the day of the month stays, or is cut to the last one of the month that is reached.
abbrev pub IsMonthsLater : ℤ → ℕ → ℤ → Type 0
IsMonthsLater n k r = (year later_year : ℤ) × (month later_month day : ℕ) × IsDateOf n year month day
    × (pos 12 *ℤ later_year +ℤ pos later_month ≡ pos 12 *ℤ year +ℤ pos (month + k))
    × IsDateOf r later_year later_month (min day (month_length later_year later_month))

-- The stretch of duration p that begins at second b ends at second e: the day of b is moved by the years and months in
-- one step, and then by the weeks and days; the clock is kept, and hours, minutes and seconds are added.
abbrev pub IsStop : DurationParts → ℤ → ℤ → Type 0
IsStop p b e = (day reached : ℤ) × (hour minute second : ℕ) × IsTimeOf b day hour minute second
    × IsMonthsLater day (12 * p.years + p.months) reached
    × (e ≡ pos 86_400 *ℤ (reached +ℤ pos (7 * p.weeks + p.days))
    +ℤ pos (3600 * (hour + p.hours) + 60 * (minute + p.minutes) + (second + p.seconds)))

-- the last decimal digit of n
abbrev pub digit : ℕ → ℕ
digit n = 48 + n % 10

abbrev pub two_digits : ℕ → List ℕ
two_digits n = digit (n / 10) ∷ digit n ∷ []

abbrev pub four_digits : ℕ → List ℕ
four_digits n = digit (n / 1000) ∷ digit (n / 100) ∷ digit (n / 10) ∷ digit n ∷ []

-- The text is that of second s: the date of its day and its clock, YYYY-MM-DDThh:mm:ss.
abbrev pub IsStampText : ℤ → List ℕ → Type 0
IsStampText s text = (number : ℤ) × (year month day hour minute second : ℕ) × (year < 10000)
    × IsDateOf number (pos year) month day × IsTimeOf s number hour minute second
    × (text ≡ four_digits year ++ codes "-" ++ two_digits month ++ codes "-" ++ two_digits day ++ codes "T"
    ++ two_digits hour ++ codes ":" ++ two_digits minute ++ codes ":" ++ two_digits second)

-- the place of a second in its day, which has 86,400
unfoldable pub second_of_day : ℤ → ℕ
second_of_day s = unsigned_abs (int_rem_euclid s (pos 86_400))
