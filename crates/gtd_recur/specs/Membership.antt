-- Which seconds a start matches, and which a basic domain contains. Letters and levels are those of GDF time domains
-- (ISO 14825:2004), weeks those of ISO 8601; what a missing field means is this project's own. From the coarsest to the finest
-- the levels are the year, the month and the week, the day, the hour, the minute, the second.
use Rattle.std.specs.Prelude.{◌≡◌, ◌⊎◌, ℕ, ◌+◌, ◌-◌, ◌/◌, ◌%◌, ◌^◌, ◌==◌, Bool, true, false, not, ◌||◌, if◌then◌else◌, Option}
use Rattle.std.specs.Prelude.{Some, None, is_some, ℤ, pos, IfSome, ◌≤ℤ◌, ◌<ℤ◌}
use Rattle.gtd_core.specs.declared.start.StartParts.{StartParts}
use Rattle.gtd_calendar.specs.Clock.{IsTimeOf, IsStop}
use Rattle.gtd_calendar.specs.Calendar.{IsDateOf, IsWeekOf, month_length, weekday_of}
use Rattle.gtd_core.specs.declared.duration.DurationParts.{DurationParts}
use Rattle.gtd_core.specs.declared.domain.Basic.{Basic}
use Rattle.gtd_core.specs.Parts.{start_parts, duration_parts}

-- A field of the day's level is given: a day of the month, a place in the month from either end, or weekdays.
abbrev pub gives_day : StartParts → Bool
gives_day p = is_some p.day || (is_some p.nth || (is_some p.nth_back || not (p.weekdays == 0)))

-- A field of the hour, the minute or the second is given.
abbrev pub gives_clock : StartParts → Bool
gives_clock p = is_some p.hour || (is_some p.minute || is_some p.second)

-- The number of a level is the one that is given. If none is, it is the least, or any number if a finer level is given.
abbrev pub HasNumber : Option ℕ → Bool → ℕ → ℕ → Type 0
HasNumber (Some given) finer least number = number ≡ given
HasNumber None finer least number = finer ≡ false → number ≡ least

-- Each level down to the day holds on day n, which has this date. A year is that of the week if a week is given, which leaves
-- the month free. A place is a number and a weekday: the n-th such weekday of the month, from its beginning or back from its end.
-- Several weekdays are alternatives; bit k - 1 stands for weekday k. The day's least is the Monday, weekday 2, of a given week,
-- and otherwise the first of the month.
pub record HoldsOn (p : StartParts) (n : ℤ) : Type 0 where
  pub year : ℤ
  pub month : ℕ
  pub day : ℕ
  pub date : IsDateOf n year month day
  pub in_year : is_some p.week ≡ false → IfSome p.year (λ y. pos y ≡ year)
  pub in_week : IfSome p.week (λ w. (of : ℤ) × IsWeekOf n of w × IfSome p.year (λ y. pos y ≡ of))
  pub in_month : HasNumber p.month (is_some p.week || (gives_day p || gives_clock p)) 1 month
  pub on_day : IfSome p.day (λ d. d ≡ day)
  pub nth : IfSome p.nth (λ x. (x.0 ≡ (day - 1) / 7 + 1) × (x.1 ≡ weekday_of n))
  pub nth_back : IfSome p.nth_back (λ x. (x.0 ≡ (month_length year month - day) / 7 + 1) × (x.1 ≡ weekday_of n))
  pub weekdays : (p.weekdays ≡ 0) ⊎ (p.weekdays / 2 ^ (weekday_of n - 1) % 2 ≡ 1)
  pub least : gives_day p ≡ false → gives_clock p ≡ false → (if is_some p.week then weekday_of n == 2 else day == 1) ≡ true

-- The start matches the second, which is at some hour, minute and second of some day: each level holds there.
abbrev pub Matches : StartParts → ℤ → Type 0
Matches p s = (n : ℤ) × (hour : ℕ) × (minute : ℕ) × (second : ℕ) × IsTimeOf s n hour minute second × HoldsOn p n
    × HasNumber p.hour (is_some p.minute || is_some p.second) 0 hour
    × HasNumber p.minute (is_some p.second) 0 minute × HasNumber p.second false 0 second

-- The start matches a second from which the stretch holds this one, however far back it begins. The end of the stretch does not
-- belong to it.
unfoldable pub InStretches : StartParts → DurationParts → ℤ → Type 0
InStretches p q s = (b : ℤ) × (end : ℤ) × Matches p b × IsStop q b end × (b ≤ℤ s) × (s <ℤ end)

-- the basic domain contains the second
abbrev pub InBasic : Basic → ℤ → Type 0
InBasic d = InStretches (start_parts d.start) (duration_parts d.duration)
