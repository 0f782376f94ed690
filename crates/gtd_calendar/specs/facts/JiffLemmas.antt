-- The day numbers of `jiff` are those of this calendar.
use Rattle.std.proofs.Common.{◌≡◌, ℕ, zero, suc, ◌+◌, ◌-◌, ◌/◌, ◌%◌, ◌≤◌, min, refl, sym, ◌∙◌, rules}
use Rattle.std.proofs.Common.{arith, ℤ, pos, neg_ℤ, ◌+ℤ◌, ◌-ℤ◌, ◌*ℤ◌, ◌≤ℤ◌, ◌<◌, ◌*◌, ◌↔◌, inl, inr, unsigned_abs}
use Rattle.std.proofs.lemmas.Bool.Decides.{nat_tests}
use Rattle.std.specs.Int.{int_rem_euclid}
use Rattle.jiff_core.specs.Calendar as theirs
use Rattle.jiff_core.proofs.SignedLemmas.{signed_arith, one_part}
use Rattle.jiff_core.proofs.MarchLemmas.{day_count-early}
use Rattle.jiff_core.proofs.CalendarLemmas.{days_from_civil-day_count, day_count-day_of_year, day_count-epoch}
use Rattle.jiff_core.proofs.CalendarLemmas.{day_count-next_year, day_of_year_bound, days_in_year_bounds}
use Rattle.jiff_core.proofs.IsoWeekLemmas.{weeks_in_year-next, iso_year_start_near}
use Rattle.jiff_core.specs.March.{march_days, march_months}
use Rattle.jiff_core.specs.IsoWeek.{weeks_in_year, days_from_iso}
use Rattle.jiff.specs.Types.{Date, ISOWeekDate, Span, Day}
use Rattle.jiff.specs.Words.{epoch_day, ordinal, iso_epoch_day, monday_zero, amount, IsDateDifference, IsYmd}
use Rattle.jiff.proofs.Family.{add_months-zero}
use Rattle.jiff_core.proofs.DateLemmas.{civil}
use Rattle.gtd_calendar.specs.Calendar.{is_leap_year, month_length, days_of_months, first_day, day_number}
use Rattle.gtd_calendar.specs.Calendar.{leap_years_up_to, IsDate, IsDateOf}
use Rattle.gtd_calendar.specs.ComputedDates.{year_of, month_of, day_of_month}
use Rattle.gtd_calendar.specs.ComputedDates.{place_in_year, week_of, week_year_of}
use Rattle.gtd_calendar.specs.Calendar.{year_length, weekday_of, thursday_of}
use Rattle.gtd_calendar.specs.ComputedEnds.{day_in_month}
use Rattle.gtd_calendar.specs.facts.DateLemmas.{date_of-only, place_in_year-is, month_length_bounds}
use Rattle.gtd_calendar.specs.facts.WeekLemmas.{year-only}
use borrow.Author.Differences.{up, down}

pub is_leap_year-theirs : (y : ℤ) → theirs.is_leap_year y ≡ is_leap_year y
is_leap_year-theirs y = grind (arith, nat_tests)

pub days_in_month-theirs : (y : ℤ) (m : ℕ) → theirs.days_in_month y m ≡ month_length y m
days_in_month-theirs y m = rw (is_leap_year-theirs y)

pub days_of_months-theirs : (y : ℤ) (n : ℕ) → theirs.days_of_months y n ≡ days_of_months y n
unfolding theirs.days_of_months days_of_months
days_of_months-theirs y zero = refl
days_of_months-theirs y (suc n) = rw (days_of_months-theirs y n, days_in_month-theirs y (suc n))

pub first_day-theirs : (y : ℤ) → theirs.IsYear y → theirs.days_from_civil y 1 1 ≡ first_day y
unfolding first_day
first_day-theirs y h =
    let n = up y + 9999 - down y in
    let at : y +ℤ pos 10000 ≡ pos (suc n) = omega (arith, signed_arith) in
    let early = day_count-early y n 1 1 at (omega arith) (omega arith) (omega arith) in
    counted n (theirs.day_count y 1 1) (theirs.days_from_civil y 1 1) y (omega (arith, signed_arith)) early
    (days_from_civil-day_count y 1 1)
  where
    counted : (n count : ℕ) (day y : ℤ) → y ≡ pos n -ℤ pos 9999 → count ≡ march_days n + march_months 13 + 1 + 59
        → up day + 4_371_953 ≡ down day + count
        → day ≡ (pos 365 *ℤ (y -ℤ pos 1970) +ℤ leap_years_up_to (y -ℤ pos 1)) -ℤ pos 477
    counted n count day y e c d = omega (arith, signed_arith)

-- a date of the library has one day number in both calendars
pub days_from_civil-theirs : (y : ℤ) (m d : ℕ) → theirs.IsCivilDate y m d → theirs.days_from_civil y m d
    ≡ day_number y m d
unfolding day_number
days_from_civil-theirs y m d h =
    let first = first_day-theirs y h.0 in
    let place = day_count-day_of_year y m d h.2.0 in
    let months = days_of_months-theirs y (m - 1) in
    summed (theirs.days_from_civil y m d) (theirs.days_from_civil y 1 1) (first_day y) (theirs.day_count y m d)
    (theirs.day_count y 1 1) (days_of_months y (m - 1)) d h.2.0 first (rw months at place)
    (days_from_civil-day_count y m d) (days_from_civil-day_count y 1 1)
  where
    summed : (day start first : ℤ) (count from months d : ℕ) → 1 ≤ d → start ≡ first → count + 1 ≡ from + (months + d)
        → up day + 4_371_953 ≡ down day + count → up start + 4_371_953 ≡ down start + from
        → day ≡ first +ℤ pos (months + (d - 1))
    summed day start first count from months d low e c a b = omega (arith, signed_arith)

-- a date of the library is the date of its day number
pub is_date_of-theirs : (d : Date) (n : ℤ) → epoch_day d ≡ n → IsDateOf n d.year d.month d.day
is_date_of-theirs d n e =
    let long = rw (days_in_month-theirs d.year d.month) at d.day_in in
    ((d.month_in, long), sym e ∙ days_from_civil-theirs d.year d.month d.day (civil d))

pub date_of-theirs : (d : Date) (n : ℤ) → epoch_day d ≡ n → (d.year ≡ year_of n) × (d.month ≡ month_of n)
    × (d.day ≡ day_of_month n)
date_of-theirs d n e = date_of-only n d.year d.month d.day (is_date_of-theirs d n e)

-- and its place in the year, counted from 1, is that of the day
pub ordinal-theirs : (d : Date) (n : ℤ) → epoch_day d ≡ n → ordinal d ≡ place_in_year n + 1
unfolding day_number
ordinal-theirs d n e =
    let is = is_date_of-theirs d n e in
    let same = (date_of-theirs d n e).0 in
    let place = rw (← same) at (place_in_year-is n).0 in
    let months = days_of_months-theirs d.year (d.month - 1) in
    let joined = sym is.1 ∙ place in
    placed (first_day d.year) (theirs.days_of_months d.year (d.month - 1)) (days_of_months d.year (d.month - 1)) d.day
    (place_in_year n) is.0.1.0 months joined
  where
    placed : (first : ℤ) (a b d k : ℕ) → 1 ≤ d → a ≡ b → first +ℤ pos (b + (d - 1)) ≡ first +ℤ pos k → a + d ≡ k + 1
    placed first a b d k low e f = omega (arith, signed_arith)

-- from the first day of the month at a count of months to this day of it, or to its last
pub day_in_month-theirs : (count d : ℕ) (first : Date) (n : ℤ) → 1 ≤ d → first.year ≡ pos (count / 12)
    → first.month ≡ count % 12 + 1 → first.day ≡ 1 → n ≡ day_number first.year first.month first.day
    → n +ℤ pos (min d (theirs.days_in_month first.year first.month)) -ℤ pos 1 ≡ day_in_month (pos count) d
unfolding day_in_month day_number
day_in_month-theirs count d first n low year month day e =
    let long = month_length_bounds (pos (count / 12)) (count % 12 + 1) in
    rw (e, year, month, day, days_in_month-theirs (pos (count / 12)) (count % 12 + 1))
    (moved (first_day (pos (count / 12))) (days_of_months (pos (count / 12)) (count % 12 + 1 - 1))
    (month_length (pos (count / 12)) (count % 12 + 1)) d low long.1)
  where
    moved : (a : ℤ) (k long d : ℕ) → 1 ≤ d → 28 ≤ long
        → a +ℤ pos (k + (1 - 1)) +ℤ pos (min d long) -ℤ pos 1 ≡ a +ℤ pos (k + (min d long - 1))
    moved a k long d low some = omega (arith, signed_arith)

-- the same for a date that the library made
pub days_from_civil-civil : (d : Date) → epoch_day d ≡ day_number d.year d.month d.day
days_from_civil-civil d = days_from_civil-theirs d.year d.month d.day (civil d)

-- 1970-01-01 is the library's day 0
pub epoch_day-start : (d : Date) → IsYmd (pos 1970) (pos 1) (pos 1) d → epoch_day d ≡ pos 0
epoch_day-start d h =
    let month : d.month ≡ 1 = omega (arith, signed_arith, h.1) in
    let day : d.day ≡ 1 = omega (arith, signed_arith, h.2) in
    rw (h.0, month, day) (omega (arith, signed_arith, day_count-epoch, days_from_civil-day_count (pos 1970) 1 1))

-- the days of the span from there to a date are the date's day number
pub amount-theirs : (a b : Date) (s : Span) → epoch_day a ≡ pos 0 → IsDateDifference Day a b s
    → amount Day s ≡ day_number b.year b.month b.day
amount-theirs a b s start h =
    let none : s.weeks ≡ 0 = elim h.shape.weeks_only [ inl e ↦ e | inr e ↦ absurd (omega (arith, e)) ] in
    let days : s.weeks * 7 + s.days ≡ s.days = omega arith in
    let is = rw (days, add_months-zero a, start) at h.shape.days_are in
    let same : amount Day s ≡ epoch_day b = omega (arith, signed_arith, is) in
    same ∙ days_from_civil-theirs b.year b.month b.day (civil b)

-- the library has a date exactly if this calendar has it
pub is_date-theirs : (y : ℤ) (m d : ℕ) (z k : ℤ) → (neg_ℤ (pos 9999) ≤ℤ y) × (y ≤ℤ pos 9999) → z ≡ pos m → k ≡ pos d
    → theirs.IsDate y z k ↔ IsDate y m d
is_date-theirs y m d z k year month day =
    let long = days_in_month-theirs y m in
    rw (month, day, long) (
      λ h. (
        (omega (arith, signed_arith, h.1.0), omega (arith, signed_arith, h.1.1)),
        (omega (arith, signed_arith, h.2.0), omega (arith, signed_arith, h.2.1)),
      ),
      λ h. (
        year,
        (omega (arith, signed_arith), omega (arith, signed_arith)),
        (omega (arith, signed_arith), omega (arith, signed_arith)),
      ),
    )

-- an ISO year begins on a Monday
iso_year_start-monday : (y : ℤ) → int_rem_euclid (theirs.iso_year_start y +ℤ pos 3) (pos 7) ≡ pos 0
unfolding theirs.weekday_number
iso_year_start-monday y = monday (theirs.days_from_civil y 1 4)
  where
    monday : (n : ℤ) → int_rem_euclid (n -ℤ pos (unsigned_abs (int_rem_euclid (n +ℤ pos 3) (pos 7))) +ℤ pos 3) (pos 7)
        ≡ pos 0
    monday n = omega (arith, signed_arith, one_part (int_rem_euclid (n +ℤ pos 3) (pos 7)))

-- the Thursday of a day of a week that begins on a Monday
thursday_of-week : (n start : ℤ) (weeks place : ℕ) → int_rem_euclid (start +ℤ pos 3) (pos 7) ≡ pos 0 → place < 7
    → n ≡ start +ℤ pos (weeks * 7 + place) → thursday_of n ≡ start +ℤ pos (weeks * 7 + 3)
unfolding thursday_of
thursday_of-week n start weeks place monday low e = omega (arith, signed_arith)

monday_zero-low : (w : ISOWeekDate) → monday_zero w.weekday < 7
monday_zero-low w = search rules

-- the library's week of a day is that of this calendar
pub week-theirs : (w : ISOWeekDate) (n : ℤ) → iso_epoch_day w ≡ n → (w.year ≡ week_year_of n) × (w.week ≡ week_of n)
unfolding days_from_iso
week-theirs w n e =
    let y = w.year in
    let thursday = thursday_of-week n (theirs.iso_year_start y) (w.week - 1) (monday_zero w.weekday)
    (iso_year_start-monday y) (monday_zero-low w) (sym e) in
    let weeks = weeks_in_year-next y (y +ℤ pos 1) w.year_in refl in
    let near = iso_year_start_near y (omega (arith, signed_arith, w.year_in)) in
    let far = iso_year_start_near (y +ℤ pos 1) (omega (arith, signed_arith, w.year_in)) in
    let next = year_start-next y w.year_in in
    let k = unsigned_abs (thursday_of n -ℤ first_day y) in
    let at = placed (thursday_of n) (theirs.iso_year_start y) (theirs.iso_year_start (y +ℤ pos 1)) (first_day y)
    (theirs.days_from_civil y 1 1) (theirs.days_from_civil (y +ℤ pos 1) 1 1) w.week (weeks_in_year y) (year_length y)
    w.week_in.0 w.week_in.1 thursday weeks.0 (first_day-theirs y w.year_in) near.0 near.1 far.0 next in
    let only = year-only (thursday_of n) y k at.1 at.0 in
    (only.0, at.2 ∙ rw only.1 refl)
  where
    year_start-next : (y : ℤ) → theirs.IsYear y → theirs.days_from_civil (y +ℤ pos 1) 1 1
        ≡ theirs.days_from_civil y 1 1 +ℤ pos (year_length y)
    year_start-next y h =
        let next = rw (is_leap_year-theirs y) at (day_count-next_year y (y +ℤ pos 1) (omega (arith, signed_arith)) refl) in
        omega (arith, signed_arith, days_from_civil-day_count y 1 1, days_from_civil-day_count (y +ℤ pos 1) 1 1)

    placed : (t start after first theirs next : ℤ) (week weeks long : ℕ) → 1 ≤ week → week ≤ weeks
        → t ≡ start +ℤ pos ((week - 1) * 7 + 3) → after ≡ start +ℤ pos (7 * weeks) → theirs ≡ first
        → start ≤ℤ (theirs +ℤ pos 3) → theirs ≤ℤ (start +ℤ pos 3) → after ≤ℤ (next +ℤ pos 3)
        → next ≡ theirs +ℤ pos long → (t ≡ first +ℤ pos (unsigned_abs (t -ℤ first)))
        × (unsigned_abs (t -ℤ first) < long) × (week ≡ unsigned_abs (t -ℤ first) / 7 + 1)
    placed t start after first theirs next week weeks long low high e f same a b c d =
        let part = one_part (t -ℤ first) in
        (omega (arith, signed_arith), omega (arith, signed_arith), omega (arith, signed_arith))

-- a date is among the first 366 of its year
pub ordinal-bound : (d : Date) → ordinal d ≤ 366
ordinal-bound d =
    let bound = day_of_year_bound d.year d.month d.day (civil d) in
    let long = days_in_year_bounds d.year in
    omega arith

-- if the Thursday of a date's week is in the date's year, its place there gives the week
pub week-in_year : (d : Date) (weekday place : ℕ) → weekday ≡ weekday_of (epoch_day d)
    → pos place ≡ pos (ordinal d) +ℤ pos 2 -ℤ pos ((weekday + 5) % 7) → place < 365
    → (d.year ≡ week_year_of (epoch_day d)) × (place / 7 + 1 ≡ week_of (epoch_day d))
unfolding weekday_of thursday_of
week-in_year d weekday place same at low =
    let n = epoch_day d in
    let year = (date_of-theirs d n refl).0 in
    let first = rw (← year) at (place_in_year-is n).0 in
    let ordinal = ordinal-theirs d n refl in
    let long = year_length_bound d.year in
    let thursday = placed n (first_day d.year) (place_in_year n) weekday place (rw ordinal at at) first same in
    let only = year-only (thursday_of n) d.year place (omega arith) thursday in
    (only.0, rw only.1 refl)
  where
    year_length_bound : (y : ℤ) → 365 ≤ year_length y
    year_length_bound y = grind arith

    placed : (n first : ℤ) (k weekday place : ℕ) → pos place ≡ pos (k + 1) +ℤ pos 2 -ℤ pos ((weekday + 5) % 7)
        → n ≡ first +ℤ pos k → weekday ≡ unsigned_abs (int_rem_euclid (n +ℤ pos 4) (pos 7)) + 1
        → thursday_of n ≡ first +ℤ pos place
    placed n first k weekday place at e same =
        omega (arith, signed_arith, one_part (int_rem_euclid (n +ℤ pos 4) (pos 7)))
