-- The Monday of a week, as it is computed, and the days of the week beside a day.
use Rattle.std.proofs.Common.{◌≡◌, ℕ, inl, inr, None, Some, arith, ℤ, pos, neg_ℤ, ◌+ℤ◌, ◌-ℤ◌, ◌*ℤ◌, ◌≤ℤ◌, ◌∙◌}
use Rattle.std.proofs.Common.{FitsSigned, to_z-of_z, w64}
use Rattle.std.specs.Int.{IsInRange, int_div_euclid}
use Rattle.gtd_calendar.specs.facts.Signed.{signed_arith}
use Rattle.gtd_calendar.specs.Calendar.{IsCalendarYear, day_number, first_day}
use Rattle.gtd_recur.specs.Jumps.{IsMonday, IsNextOfWeek, IsLastOfWeek}
use Rattle.gtd_recur.specs.Stretches.{IsEarlier, IsLater}
use Rattle.gtd_recur.proofs.FindLemmas.{year-bound, monday-bound}
use Rattle.gtd_recur.proofs.SmallLemmas.{IsSmall, word}

-- the first day of a year of the calendar
pub record IsFirstDayOf (year first : ℤ) : Type 0 where
  pub in_year : IsCalendarYear year
  pub is : first ≡ first_day year
  pub low : neg_ℤ (pos 62_100) ≤ℤ first
  pub high : first ≤ℤ pos 303_200

pub first-day-of : (year first : ℤ) → IsCalendarYear year → first ≡ day_number year 1 1 → IsFirstDayOf year first
first-day-of year first in_year number =
    let bound = year-bound year in_year in
    let is : first ≡ first_day year = number ∙ bound.0 in
    record { in_year = in_year; is = is; low = rw is bound.1; high = rw is bound.2 }

-- A Monday as it is computed: of the weeks from day 0 on, so many are over at the first week of the year.
pub record IsComputedMonday (first weeks given : ℤ) (week : ℕ) : Type 0 where
  pub week_in : IsInRange 1 53 week
  pub given_is : given ≡ pos week
  pub weeks_is : weeks ≡ int_div_euclid (first +ℤ pos 6) (pos 7)
  pub weeks_in : (neg_ℤ (pos 9000) ≤ℤ weeks) × (weeks ≤ℤ pos 43_400)
  pub value : word (word (pos 7 *ℤ word (word (word weeks +ℤ word given) -ℤ pos 1)) -ℤ pos 3)
      ≡ (pos 7 *ℤ (weeks +ℤ pos week -ℤ pos 1)) -ℤ pos 3

pub computed-monday : (year first weeks given : ℤ) (week : ℕ) → IsFirstDayOf year first → IsInRange 1 53 week
    → given ≡ pos week → weeks ≡ int_div_euclid (word (word first +ℤ pos 6)) (pos 7) → IsComputedMonday first weeks given week
computed-monday year first weeks given week of range is quotient =
    let a = of.low in let b = of.high in let c = range.0 in let d = range.1 in
    let plain : word (word first +ℤ pos 6) ≡ first +ℤ pos 6 = omega (arith, signed_arith, a, b) in
    let weeks_is = rw plain at quotient in
    let small = monday-bound first weeks week weeks_is a b c d in
    let low = small.0 in let high = small.1 in
    record {
      week_in = range;
      given_is = is;
      weeks_is = weeks_is;
      weeks_in = small;
      value = omega (arith, signed_arith, low, high, is, c, d);
    }

-- of the week, no later day is left, or no earlier one
pub week-over : (year day monday : ℤ) (week : ℕ) → FitsSigned w64 year → IsMonday (word year) week (Some monday)
    → (monday +ℤ pos 6) ≤ℤ day → IsNextOfWeek year week day None
week-over year day monday week fits is le = inr (rw (rw (to_z-of_z fits) at is.1) at le)

pub week-ahead : (year day monday : ℤ) (week : ℕ) → FitsSigned w64 year → IsMonday (word year) week (Some monday)
    → day ≤ℤ monday → IsLastOfWeek year week day None
week-ahead year day monday week fits is le = inr (rw (rw (to_z-of_z fits) at is.1) at le)

-- the Mondays of the calendar are small
abbrev pub IsNearMonday : ℤ → Type 0
IsNearMonday monday = (neg_ℤ (pos 62_200) ≤ℤ monday) × (monday ≤ℤ pos 304_000)

-- the next day of the week, and the last one before a day
pub next-of-week : (year day monday next : ℤ) (week : ℕ) → FitsSigned w64 year → FitsSigned w64 next → IsSmall day
    → IsMonday (word year) week (Some monday) → IsNearMonday monday → IsLater (word monday) (word (word day +ℤ pos 1)) next
    → IsNextOfWeek year week day (Some (word next))
next-of-week year day monday next week fits_year fits small is near given =
    let a = near.0 in let b = near.1 in
    let plain : word monday ≡ monday = omega (arith, signed_arith, a, b) in
    let later = rw (small.is, small.after, plain) at given in
    let first = rw (to_z-of_z fits_year) at is.1 in
    let after = later.1 in
    rw (to_z-of_z fits) (omega (arith, signed_arith, after), elim (later.2) [ inl e ↦ inr (e ∙ first) | inr e ↦ inl e ])

pub last-of-week : (year day monday last : ℤ) (week : ℕ) → FitsSigned w64 year → FitsSigned w64 last → IsSmall day
    → IsMonday (word year) week (Some monday) → IsNearMonday monday
    → IsEarlier (word (word monday +ℤ pos 6)) (word (word day -ℤ pos 1)) last → IsLastOfWeek year week day (Some (word last))
last-of-week year day monday last week fits_year fits small is near given =
    let a = near.0 in let b = near.1 in
    let sunday : word (word monday +ℤ pos 6) ≡ monday +ℤ pos 6 = omega (arith, signed_arith, a, b) in
    let earlier = rw (sunday, small.is, small.before) at given in
    let before = earlier.1 in
    rw (to_z-of_z fits) (
      omega (arith, signed_arith, before),
      elim (earlier.2) [ inl e ↦ inr (rw (rw (to_z-of_z fits_year) at is.1) at e) | inr e ↦ inl e ],
    )
