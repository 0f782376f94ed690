-- What the fields of a day and the day of a date say, by the relation of dates.
use Rattle.std.proofs.Common.{◌≡◌, ℕ, refl, Option, Some, None, ℤ, IsSome, IfSome, ◌↔◌}
use Rattle.gtd_calendar.specs.declared.day.DayFields.{DayFields}
use Rattle.gtd_calendar.specs.Calendar.{IsDate, IsDateOf, IsWeekOf, day_number, month_length, place_from_back, AreFieldsOf}
use Rattle.gtd_calendar.specs.ComputedFields.{day_fields}
use Rattle.gtd_calendar.specs.facts.DateLemmas.{date_of-is, date_of-only}
use Rattle.gtd_calendar.specs.facts.WeekLemmas.{week_of-is, week_of-only}

pub fields-date : (n : ℤ) (f : DayFields) → f ≡ day_fields n → IsDateOf n f.year f.month f.day
fields-date n f e = rw e (date_of-is n)

pub fields-week : (n : ℤ) (f : DayFields) → f ≡ day_fields n → IsWeekOf n f.week_year f.week
fields-week n f e = rw e (week_of-is n)

pub fields-nth_back : (n : ℤ) (f : DayFields) → f ≡ day_fields n
    → f.nth_back ≡ place_from_back (month_length f.year f.month) f.day
fields-nth_back n f e = rw e refl

pub day-dated : (r : Option ℤ) (y : ℤ) (m d : ℕ) → (IsSome r ↔ IsDate y m d) → IfSome r (λ n. n ≡ day_number y m d)
    → IfSome r (λ n. IsDateOf n y m d)
day-dated (Some n) y m d exists value = (exists.0 refl, value)
day-dated None y m d exists value = tt

-- the fields that are computed are the day's
pub fields-are : (n : ℤ) → AreFieldsOf n (day_fields n)
fields-are n = record { date = date_of-is n; weekday = refl; week = week_of-is n; nth = refl; nth_back = refl }

-- and there are no others
pub fields-only : (n : ℤ) (f : DayFields) → AreFieldsOf n f → f ≡ day_fields n
fields-only n f h =
    let date = date_of-only n f.year f.month f.day h.date in
    let week = week_of-only n f.week_year f.week h.week in
    rw (← date.0, ← date.1, ← date.2, ← week.0, ← week.1, ← h.weekday, ← h.nth_back, ← h.nth) refl
