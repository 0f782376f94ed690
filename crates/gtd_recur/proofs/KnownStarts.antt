-- Starts whose seconds are known from a printed calendar.
use Rattle.std.specs.Prelude.{◌≡◌, Some, true, false, pos}
use Rattle.std.proofs.Common.{refl}
use Rattle.gtd_core.specs.declared.start.StartParts.{StartParts}
use Rattle.gtd_core.specs.Ranges.{no_parts}
use Rattle.gtd_calendar.specs.Calendar.{first_day, days_of_months, day_number, weekday_of, thursday_of}
use Rattle.gtd_calendar.specs.ComputedDates.{year_of, place_in_year, last_begun, month_of, day_of_month}
use Rattle.gtd_core.specs.Seconds.{day_of_second}
use Rattle.gtd_calendar.specs.Clock.{second_of_day}
use Rattle.gtd_recur.specs.Begins.{begins}

-- the 13th that is a Friday
friday_13th : StartParts
friday_13th = record no_parts { day = Some 13; weekdays = 32 }

-- week 1 in January
week_1_in_january : StartParts
week_1_in_january = record no_parts { month = Some 1; week = Some 1 }

-- 10 o'clock in May
ten_in_may : StartParts
ten_in_may = record no_parts { month = Some 5; hour = Some 10 }

-- 13 September 2024 was a Friday and 13 October a Sunday; week 1 of 2024 began on 1 January and that of 2025 on 30 December; 17
-- May 2024, 10:00:00 and 10:00:01
known_starts : (begins friday_13th (pos 1726185600) ≡ true) × (begins friday_13th (pos 1728777600) ≡ false)
    × (begins week_1_in_january (pos 1704067200) ≡ true) × (begins week_1_in_january (pos 1735516800) ≡ false)
    × (begins ten_in_may (pos 1715940000) ≡ true) × (begins ten_in_may (pos 1715940001) ≡ false)
unfolding friday_13th week_1_in_january ten_in_may begins day_of_second second_of_day first_day days_of_months day_number year_of
    place_in_year last_begun month_of day_of_month weekday_of thursday_of
known_starts = (refl, refl, refl, refl, refl, refl)
