-- The texts of days and seconds, and what reading them answers.
use Rattle.std.proofs.Common.{◌≡◌, ℕ, ◌≤◌, true, false, ◌&&◌, ◌||◌, nat_le, int_lt, List}
use Rattle.std.proofs.Common.{Option, Some, None, Result, Ok, Err, refl, sym, ◌∙◌, arith, ℤ, pos}
use Rattle.std.proofs.lemmas.Bool.Decides.{nat_tests}
use Rattle.std.proofs.lemmas.Bool.{false_from_ne_true, true_from_ne_false, cond_both, true≢false}
use Rattle.gtd_core.specs.Limits.{first_horizon_day, horizons_end}
use Rattle.jiff_core.proofs.SignedLemmas.{signed_arith}
use Rattle.gtd_calendar.specs.declared.stamp.StampFault.{StampFault}
use Rattle.gtd_calendar.specs.declared.stamp.StampFault.TheVariants.{Shape, NoSuchDate, Range}
use Rattle.gtd_calendar.specs.Calendar.{IsDate, month_length, day_number}
use Rattle.gtd_calendar.specs.Stamp.{date_text, IsYmdText, IsDateText}
use Rattle.gtd_calendar.specs.Read.{IsReadableDay, IsReadDate, is_date, day_in_range, day_if_any, ymd_in, date_in}
use Rattle.gtd_calendar.specs.ReadParts.{IsYmd}
use Rattle.gtd_calendar.specs.facts.DateTexts.{date_text-is}
use Rattle.gtd_calendar.proofs.ShapeLemmas.{ymd_in-is, ymd_in-shape, ymd-only}

pub is_date-true : (y : ℤ) (m d : ℕ) → IsDate y m d → is_date y m d ≡ true
is_date-true y m d h = true-at m d (month_length y m) h
  where
    true-at : (m d long : ℕ) → ((1 ≤ m) × (m ≤ 12)) × ((1 ≤ d) × (d ≤ long))
        → (nat_le 1 m && nat_le m 12 && nat_le 1 d && nat_le d long) ≡ true
    true-at m d long h = grind (arith, nat_tests)

pub is_date-parts : (y : ℤ) (m d : ℕ) → is_date y m d ≡ true → IsDate y m d
is_date-parts y m d e = date-at m d (month_length y m) e
  where
    date-at : (m d long : ℕ) → (nat_le 1 m && nat_le m 12 && nat_le 1 d && nat_le d long) ≡ true → ((1 ≤ m) × (m ≤ 12))
        × ((1 ≤ d) × (d ≤ long))
    date-at m d long e = grind (arith, nat_tests)

is_date-false : (y : ℤ) (m d : ℕ) → (IsDate y m d → ⊥) → is_date y m d ≡ false
is_date-false y m d never = false_from_ne_true (is_date y m d) (λ e. never (is_date-parts y m d e))

pub day_in_range-ok : (n : ℤ) → IsReadableDay n → day_in_range n ≡ Ok n
day_in_range-ok n h = grind (arith, signed_arith)

day-inside : (n : ℤ) → (int_lt n first_horizon_day || int_lt horizons_end n) ≡ false → IsReadableDay n
day-inside n e = grind (arith, signed_arith)

day-outside : (n : ℤ) → (int_lt n first_horizon_day || int_lt horizons_end n) ≡ true → IsReadableDay n → ⊥
day-outside n e h = grind (arith, signed_arith)

day_in_range-err : (n : ℤ) → (IsReadableDay n → ⊥) → day_in_range n ≡ Err Range
day_in_range-err n never =
    rw (true_from_ne_false (int_lt n first_horizon_day || int_lt horizons_end n) (λ e. never (day-inside n e))) refl

-- what a date's text is read as
pub date_in-only : (text : List ℕ) (r : Result ℤ StampFault) → IsReadDate text r → r ≡ date_in text
unfolding date_in
date_in-only text (Ok n) h =
    rw (
      ymd_in-is text h.0.year h.0.month h.0.day h.0.shown,
      is_date-true (pos h.0.year) h.0.month h.0.day h.0.date.0,
      ← h.0.date.1,
    )
    (sym (day_in_range-ok n h.1))
date_in-only text (Err Shape) h = rw (← ymd-only text None h) refl
date_in-only text (Err NoSuchDate) (y, m, d, shape, never) = rw (
  ymd_in-is text y m d shape,
  is_date-false (pos y) m d never,
) refl
date_in-only text (Err Range) (n, is, never) =
    rw (
      ymd_in-is text is.year is.month is.day is.shown,
      is_date-true (pos is.year) is.month is.day is.date.0,
      ← is.date.1,
    )
    (sym (day_in_range-err n never))

-- and it is read in that way
pub date_in-is : (text : List ℕ) → IsReadDate text (date_in text)
unfolding date_in
date_in-is text = answered text (ymd_in text) (ymd_in-shape text)
  where
    answered : (text : List ℕ) (x : Option (ℕ × ℕ × ℕ)) → IsYmd text x → IsReadDate text (day_if_any x)
    answered text None h = h
    answered text (Some x) h =
        cond_both (is_date (pos x.0) x.1 x.2) (day_in_range (day_number (pos x.0) x.1 x.2)) (Err NoSuchDate)
        (IsReadDate text)
        (λ e. ranged text x.0 x.1 x.2 h (is_date-parts (pos x.0) x.1 x.2 e))
        (λ e. (x.0, x.1, x.2, h, λ d. true≢false (sym (is_date-true (pos x.0) x.1 x.2 d) ∙ e)))
      where
        ranged : (text : List ℕ) (y m d : ℕ) → IsYmdText text y m d → IsDate (pos y) m d
            → IsReadDate text (day_in_range (day_number (pos y) m d))
        ranged text y m d h date =
            let n = day_number (pos y) m d in
            let is : IsDateText n text = record { year = y; month = m; day = d; date = (date, refl); shown = h } in
            cond_both (int_lt n first_horizon_day || int_lt horizons_end n) (Err Range) (Ok n) (IsReadDate text)
            (λ e. (n, is, day-outside n e))
            (λ e. (is, day-inside n e))

-- what is written of a day that is read is read again
pub date_in-again : (n : ℤ) → IsReadableDay n → date_in (date_text n) ≡ Ok n
date_in-again n h = sym (date_in-only (date_text n) (Ok n)
    (date_text-is n (omega (arith, signed_arith), omega (arith, signed_arith)), h))
