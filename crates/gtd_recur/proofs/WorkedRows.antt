-- Worked rows, computed by the definitions themselves: dates, weekdays and weeks; ends of stretches; seconds that a start
-- matches, and that a basic domain contains. Days are given by their numbers, and a second by its day and its clock.
use Rattle.std.proofs.Common.{◌≡◌, ◌+◌, ◌*◌, ◌<◌, ℕ, ℤ, pos, neg_ℤ, ◌+ℤ◌, ◌*ℤ◌, inl, inr, refl, arith, Some}
use Rattle.gtd_core.specs.Ranges.{no_parts}
use Rattle.gtd_core.specs.declared.duration.DurationParts.{DurationParts}
use Rattle.gtd_calendar.specs.Calendar.{IsDate, IsDateOf, IsWeekOf, day_number, days_of_months, first_day, thursday_of}
use Rattle.gtd_calendar.specs.Calendar.{weekday_of}
use Rattle.gtd_calendar.specs.Clock.{IsStop, IsTimeOf}
use Rattle.gtd_calendar.specs.facts.Signed.{signed_arith}
use Rattle.gtd_recur.specs.Membership.{InStretches, Matches}

-- ---- days

-- Day 20087 is 30 December 2024, a Monday, in week 1 of 2025.
pub day_20087 : IsDateOf (pos 20087) (pos 2024) 12 30
unfolding day_number first_day days_of_months
day_20087 = (((omega arith, omega arith), (omega arith, omega arith)), refl)

pub weekday_20087 : weekday_of (pos 20087) ≡ 2
unfolding weekday_of
weekday_20087 = refl

pub week_20087 : IsWeekOf (pos 20087) (pos 2025) 1
unfolding thursday_of first_day
week_20087 = record { k = 1; in_year = omega arith; thursday = refl; number = refl }

-- Day 18630 is 3 January 2021, a Sunday, in week 53 of 2020.
pub day_18630 : IsDateOf (pos 18630) (pos 2021) 1 3
unfolding day_number first_day days_of_months
day_18630 = (((omega arith, omega arith), (omega arith, omega arith)), refl)

pub weekday_18630 : weekday_of (pos 18630) ≡ 1
unfolding weekday_of
weekday_18630 = refl

pub week_18630 : IsWeekOf (pos 18630) (pos 2020) 53
unfolding thursday_of first_day
week_18630 = record { k = 365; in_year = omega arith; thursday = refl; number = refl }

-- The first and the last day of the calendar, 1 January 1800 and 31 December 2799.
pub first_of_all : IsDateOf (neg_ℤ (pos 62091)) (pos 1800) 1 1
unfolding day_number first_day days_of_months
first_of_all = (((omega arith, omega arith), (omega arith, omega arith)), refl)

pub last_of_all : IsDateOf (pos 303150) (pos 2799) 12 31
unfolding day_number first_day days_of_months
last_of_all = (((omega arith, omega arith), (omega arith, omega arith)), refl)

-- The year 2100 has no 29 February.
pub no_leap_day : IsDate (pos 2100) 2 29 → ⊥
no_leap_day is = let most = is.1.1 in omega arith

-- ---- ends of stretches

abbrev at : ℕ → ℕ → ℕ → ℕ → ℤ
at day hour minute second = pos 86400 *ℤ pos day +ℤ pos (3600 * hour + 60 * minute + second)

abbrev for : ℕ → ℕ → ℕ → DurationParts
for years months hours =
    record { years = years; months = months; weeks = 0; days = 0; hours = hours; minutes = 0; seconds = 0 }

-- a second is at the hour, the minute and the second by which it is written
pub time_at : (day hour minute second : ℕ) → hour < 24 → minute < 60 → second < 60
    → IsTimeOf (at day hour minute second) (pos day) hour minute second
time_at day hour minute second h m s = record { clock = (h, m, s); is = refl }

-- One month from 31 January 2024 on ends on 29 February.
pub one_month : IsStop (for 0 1 0) (at 19753 0 0 0) (at 19782 0 0 0)
unfolding day_number first_day days_of_months
one_month = (
  pos 19753,
  pos 19782,
  0,
  0,
  0,
  time_at 19753 0 0 0 (omega arith) (omega arith) (omega arith),
  (
    pos 2024,
    pos 2024,
    1,
    2,
    31,
    (((omega arith, omega arith), (omega arith, omega arith)), refl),
    refl,
    (((omega arith, omega arith), (omega arith, omega arith)), refl),
  ),
  refl,
)

-- A year and a month from 29 February 2024 on end on 29 March 2025.
pub year_and_month : IsStop (for 1 1 0) (at 19782 0 0 0) (at 20176 0 0 0)
unfolding day_number first_day days_of_months
year_and_month = (
  pos 19782,
  pos 20176,
  0,
  0,
  0,
  time_at 19782 0 0 0 (omega arith) (omega arith) (omega arith),
  (
    pos 2024,
    pos 2025,
    2,
    3,
    29,
    (((omega arith, omega arith), (omega arith, omega arith)), refl),
    refl,
    (((omega arith, omega arith), (omega arith, omega arith)), refl),
  ),
  refl,
)

-- A month and 24 hours from noon of 31 January 2023 on end at noon of 1 March.
pub month_and_day : IsStop (for 0 1 24) (at 19388 12 0 0) (at 19417 12 0 0)
unfolding day_number first_day days_of_months
month_and_day = (
  pos 19388,
  pos 19416,
  12,
  0,
  0,
  time_at 19388 12 0 0 (omega arith) (omega arith) (omega arith),
  (
    pos 2023,
    pos 2023,
    1,
    2,
    31,
    (((omega arith, omega arith), (omega arith, omega arith)), refl),
    refl,
    (((omega arith, omega arith), (omega arith, omega arith)), refl),
  ),
  refl,
)

-- ---- seconds that a start matches

-- `(f52)`: the fifth Monday of January 2024, the 29th.
pub fifth_monday : Matches (record no_parts { nth = Some (5, 2) }) (at 19751 0 0 0)
unfolding day_number first_day days_of_months weekday_of
fifth_monday = (
  pos 19751,
  0,
  0,
  0,
  time_at 19751 0 0 0 (omega arith) (omega arith) (omega arith),
  record {
    year = pos 2024;
    month = 1;
    day = 29;
    date = (((omega arith, omega arith), (omega arith, omega arith)), refl);
    in_year = λ none. tt;
    in_week = tt;
    in_month = λ none. cc;
    on_day = tt;
    nth = (refl, refl);
    nth_back = tt;
    weekdays = inl refl;
    least = λ day clock. cc;
  },
  λ none. refl,
  λ none. refl,
  λ none. refl,
)

-- `(l12)`: the last Monday of May 2024, the 27th.
pub last_monday : Matches (record no_parts { nth_back = Some (1, 2) }) (at 19870 0 0 0)
unfolding day_number first_day days_of_months weekday_of
last_monday = (
  pos 19870,
  0,
  0,
  0,
  time_at 19870 0 0 0 (omega arith) (omega arith) (omega arith),
  record {
    year = pos 2024;
    month = 5;
    day = 27;
    date = (((omega arith, omega arith), (omega arith, omega arith)), refl);
    in_year = λ none. tt;
    in_week = tt;
    in_month = λ none. cc;
    on_day = tt;
    nth = tt;
    nth_back = (refl, refl);
    weekdays = inl refl;
    least = λ day clock. cc;
  },
  λ none. refl,
  λ none. refl,
  λ none. refl,
)

-- `(y2025w1)`: the week's Monday, 30 December 2024.
pub week_begins : Matches (record no_parts { year = Some 2025; week = Some 1 }) (at 20087 0 0 0)
unfolding weekday_of
week_begins = (
  pos 20087,
  0,
  0,
  0,
  time_at 20087 0 0 0 (omega arith) (omega arith) (omega arith),
  record {
    year = pos 2024;
    month = 12;
    day = 30;
    date = day_20087;
    in_year = λ none. cc;
    in_week = (pos 2025, week_20087, refl);
    in_month = λ none. cc;
    on_day = tt;
    nth = tt;
    nth_back = tt;
    weekdays = inl refl;
    least = λ day clock. refl;
  },
  λ none. refl,
  λ none. refl,
  λ none. refl,
)

-- `(d13t6)`: Friday, 13 September 2024.
pub friday : Matches (record no_parts { day = Some 13; weekdays = 32 }) (at 19979 0 0 0)
unfolding day_number first_day days_of_months weekday_of
friday = (
  pos 19979,
  0,
  0,
  0,
  time_at 19979 0 0 0 (omega arith) (omega arith) (omega arith),
  record {
    year = pos 2024;
    month = 9;
    day = 13;
    date = (((omega arith, omega arith), (omega arith, omega arith)), refl);
    in_year = λ none. tt;
    in_week = tt;
    in_month = λ none. cc;
    on_day = refl;
    nth = tt;
    nth_back = tt;
    weekdays = inr refl;
    least = λ day clock. cc;
  },
  λ none. refl,
  λ none. refl,
  λ none. refl,
)

-- ---- seconds that a basic domain contains

-- a start of an hour matches on each day
pub on_the_hour : (month hour day y m d : ℕ) → IsDateOf (pos day) (pos y) m d → hour < 24 → m ≡ month
    → Matches (record no_parts { month = Some month; hour = Some hour }) (at day hour 0 0)
on_the_hour month hour day y m d date h is = (
  pos day,
  hour,
  0,
  0,
  time_at day hour 0 0 h (omega arith) (omega arith),
  record {
    year = pos y;
    month = m;
    day = d;
    date = date;
    in_year = λ none. tt;
    in_week = tt;
    in_month = is;
    on_day = tt;
    nth = tt;
    nth_back = tt;
    weekdays = inl refl;
    least = λ day clock. cc;
  },
  refl,
  λ none. refl,
  λ none. refl,
)

-- `(M5h10){h1}`: 17 May 2024 at 10:59:59.
pub last_second : InStretches (record no_parts { month = Some 5; hour = Some 10 }) (for 0 0 1) (at 19860 10 59 59)
unfolding InStretches day_number first_day days_of_months
last_second = (
  at 19860 10 0 0,
  at 19860 11 0 0,
  on_the_hour 5 10 19860 2024 5 17 (((omega arith, omega arith), (omega arith, omega arith)), refl) (omega arith) refl,
  (
    pos 19860,
    pos 19860,
    10,
    0,
    0,
    time_at 19860 10 0 0 (omega arith) (omega arith) (omega arith),
    (
      pos 2024,
      pos 2024,
      5,
      5,
      17,
      (((omega arith, omega arith), (omega arith, omega arith)), refl),
      refl,
      (((omega arith, omega arith), (omega arith, omega arith)), refl),
    ),
    refl,
  ),
  omega (arith, signed_arith),
  omega (arith, signed_arith),
)
