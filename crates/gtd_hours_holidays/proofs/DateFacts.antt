-- Dates of the years 1800 to 2799.
use Rattle.std.proofs.Common.{◌≡◌, ◌∙◌, ap, sym, refl, arith, ◌<◌, ◌≤◌, ℕ, List, Option, Some, None, ℤ, pos, neg_ℤ, ◌+ℤ◌, ◌≤ℤ◌}
use Rattle.std.proofs.Common.{◌<ℤ◌, ◌↔◌, get_or, ◌+◌, ◌*◌, ◌/◌, ◌%◌}
use Rattle.std.specs.Prelude.{MatchOption, IfSome, IsSome}
use Rattle.std.proofs.lemmas.Int.{by_lt_z}
use Rattle.gtd_calendar.specs.facts.Signed.{signed_arith}
use Rattle.gtd_calendar.specs.Calendar.{IsCalendarDay, IsCalendarYear, IsDate, IsDateOf, day_number, first_day, year_length}
use Rattle.gtd_calendar.specs.Stamp.{IsYmdText, ymd_text}
use Rattle.gtd_calendar.specs.facts.DateLemmas.{day_number-in_year}
use Rattle.gtd_calendar.specs.facts.YearLemmas.{first_day-later, first_day-more}
use Rattle.gtd_hours_holidays.specs.Dates.{IsDayText}

-- ---- the days of these years are the calendar's

first_day-1800 : first_day (pos 1800) ≡ neg_ℤ (pos 62_091)
unfolding first_day
first_day-1800 = refl

first_day-2800 : first_day (pos 2800) ≡ pos 303_151
unfolding first_day
first_day-2800 = refl

not_before : (y : ℤ) → pos 1800 ≤ℤ y → neg_ℤ (pos 62_091) ≤ℤ first_day y
not_before y low =
    by_lt_z (pos 1800) y (λ lt. rw first_day-1800 at (first_day-more (pos 1800) y lt))
    (λ le. let e : y ≡ pos 1800 = omega (arith, signed_arith, le, low) in rw (e, first_day-1800) (omega (arith, signed_arith)))

pub in_calendar : (n y : ℤ) (m d : ℕ) → IsCalendarYear y → IsDateOf n y m d → IsCalendarDay n
in_calendar n y m d range h =
    let lies = day_number-in_year y m d h.0 in
    let high = range.1 in
    let to = rw first_day-2800 at (first_day-later y (pos 2800) (omega (arith, signed_arith, high))) in
    rw h.1 (within (day_number y m d) (first_day y) (first_day y +ℤ pos (year_length y)) lies.0 lies.1 (not_before y range.0) to)
  where
    within : (n a b : ℤ) → a ≤ℤ n → n <ℤ b → neg_ℤ (pos 62_091) ≤ℤ a → b ≤ℤ pos 303_151 → IsCalendarDay n
    within n a b p q low high = (omega (arith, signed_arith, p, low), omega (arith, signed_arith, q, high))

pub calendar_year : (y : ℕ) → 1800 ≤ y → y ≤ 2799 → IsCalendarYear (pos y)
calendar_year y low high = (omega (arith, signed_arith, low), omega (arith, signed_arith, high))

-- ---- a text has one date

four_of : (n : ℕ) → n < 10000 → n ≡ 1000 * (n / 1000 % 10) + 100 * (n / 100 % 10) + 10 * (n / 10 % 10) + n % 10
four_of n low = omega arith

two_of : (n : ℕ) → n < 100 → n ≡ 10 * (n / 10 % 10) + n % 10
two_of n low = omega arith

same_ymd : (text : List ℕ) (y m d a b c : ℕ) → IsYmdText text y m d → IsYmdText text a b c → (y ≡ a) × (m ≡ b) × (d ≡ c)
same_ymd text y m d a b c h g =
    let e : ymd_text y m d ≡ ymd_text a b c = sym h.is ∙ g.is in
    let at : (i : ℕ) → get_or (ymd_text y m d) i 0 ≡ get_or (ymd_text a b c) i 0 = λ i. ap (λ (t : List ℕ). get_or t i 0) e in (
      fours _ _ _ _ _ _ _ _ y a (four_of y h.year_in) (four_of a g.year_in) (at 0) (at 1) (at 2) (at 3),
      twos _ _ _ _ m b (two_of m h.month_in) (two_of b g.month_in) (at 5) (at 6),
      twos _ _ _ _ d c (two_of d h.day_in) (two_of c g.day_in) (at 8) (at 9),
    )
  where
    fours : (p q r s t u v w y a : ℕ) → y ≡ 1000 * p + 100 * q + 10 * r + s → a ≡ 1000 * t + 100 * u + 10 * v + w
        → 48 + p ≡ 48 + t → 48 + q ≡ 48 + u → 48 + r ≡ 48 + v → 48 + s ≡ 48 + w → y ≡ a
    fours p q r s t u v w y a i j e f g h = omega (arith, i, j, e, f, g, h)

    twos : (p q t u y a : ℕ) → y ≡ 10 * p + q → a ≡ 10 * t + u → 48 + p ≡ 48 + t → 48 + q ≡ 48 + u → y ≡ a
    twos p q t u y a i j e f = omega (arith, i, j, e, f)

-- and one day
pub day_only : (text : List ℕ) (n k : ℤ) → IsDayText text n → IsDayText text k → n ≡ k
day_only text n k h g =
    let same = same_ymd text h.year h.month h.day g.year g.month g.day h.shown g.shown in
    h.date.1 ∙ (rw (same.0, same.1, same.2) (sym g.date.1))

pair : (A B : Type 0) → A → B → A × B
pair A B a b = (a, b)

-- a date of the shape, as the calendar answers it
pub day_read : (text : List ℕ) (y m d : ℕ) (r : Option ℤ) → IsYmdText text y m d
    → IsSome r ↔ (IsCalendarYear (pos y) × IsDate (pos y) m d) → IfSome r (λ n. IsDateOf n (pos y) m d)
    → MatchOption r ((n : ℤ) → IsDayText text n → ⊥) (IsDayText text) × IfSome r IsCalendarDay
day_read text y m d None shown exists date = (never, tt)
  where
    never : (n : ℤ) → IsDayText text n → ⊥
    never n is =
        let same = same_ymd text is.year is.month is.day y m d is.shown shown in
        let has : IsCalendarYear (pos y) × IsDate (pos y) m d =
        rw (same.0, same.1, same.2) at
        (pair (IsCalendarYear (pos is.year)) (IsDate (pos is.year) is.month is.day) is.year_in is.date.0) in
        let e = exists.1 has in
        cc
day_read text y m d (Some n) shown exists date = (text_of, in_calendar n (pos y) m d (exists.0 refl).0 date)
  where
    text_of : IsDayText text n
    text_of = record { year = y; month = m; day = d; shown = shown; year_in = (exists.0 refl).0; date = date }
