-- Values from almanacs, so that a wrong definition does not check.
use Rattle.std.specs.Prelude.{◌≡◌, ℕ, pos, negsuc, neg_ℤ}
use Rattle.std.proofs.Common.{refl}
use Rattle.gtd_core.specs.Limits.{first_horizon_day, horizons_end, moments_end, first_calendar_day}
use Rattle.gtd_core.specs.declared.duration.DurationParts.{DurationParts}
use Rattle.gtd_core.specs.Seconds.{day_of_second}
use Rattle.gtd_calendar.specs.Clock.{second_of_day}
use Rattle.gtd_calendar.specs.ComputedEnds.{day_in_month, months_later, stop}
use Rattle.gtd_calendar.specs.Calendar.{first_day, days_of_months, day_number, weekday_of, thursday_of}
use Rattle.gtd_calendar.specs.ComputedDates.{year_of, place_in_year, last_begun, month_of, day_of_month, week_year_of}
use Rattle.gtd_calendar.specs.ComputedDates.{week_of}

pub known_first_days : (first_day (pos 1970) ≡ pos 0) × (first_day (pos 1800) ≡ first_calendar_day)
    × (first_day (pos 1901) ≡ first_horizon_day) × (first_day (pos 2000) ≡ pos 10957)
    × (first_day (pos 2024) ≡ pos 19723)
    × (first_day (pos 2800) ≡ pos 303_151) × (first_day (pos 2700) ≡ horizons_end) × (first_day (pos 2200) ≡ moments_end)
unfolding first_day
known_first_days = (refl, refl, refl, refl, refl, refl, refl, refl)

pub known_dates : (year_of (pos 20087) ≡ pos 2024) × (month_of (pos 20087) ≡ 12) × (day_of_month (pos 20087) ≡ 30)
    × (weekday_of (pos 20087) ≡ 2)
    × (week_of (pos 20087) ≡ 1) × (week_year_of (pos 20087) ≡ pos 2025)
    × (week_of (pos 18630) ≡ 53) × (week_year_of (pos 18630) ≡ pos 2020) × (year_of (negsuc 0) ≡ pos 1969)
    × (month_of (negsuc 0) ≡ 12) × (day_of_month (negsuc 0) ≡ 31)
unfolding first_day days_of_months year_of place_in_year last_begun month_of day_of_month weekday_of thursday_of
known_dates = (refl, refl, refl, refl, refl, refl, refl, refl, refl, refl, refl)

-- a duration of years and months, hours
years_months_hours : ℕ → ℕ → ℕ → DurationParts
years_months_hours y m h = record { years = y; months = m; weeks = 0; days = 0; hours = h; minutes = 0; seconds = 0 }

-- 2024-01-31 and a month is 2024-02-29; 2024-02-29 and a year and a month is 2025-03-29; 2023-01-31T12:00:00, a month
-- and 24 hours is 2023-03-01T12:00:00
known_ends : (stop (years_months_hours 0 1 0) (pos 1706659200) ≡ pos 1709164800)
    × (stop (years_months_hours 1 1 0) (pos 1709164800) ≡ pos 1743206400)
    × (stop (years_months_hours 0 1 24) (pos 1675166400) ≡ pos 1677672000)
    × (stop (years_months_hours 1 0 0) (neg_ℤ (pos 1)) ≡ pos 31535999)
unfolding years_months_hours stop months_later day_in_month day_of_second second_of_day first_day days_of_months
    day_number year_of place_in_year last_begun month_of day_of_month
known_ends = (refl, refl, refl, refl)
