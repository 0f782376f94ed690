-- The text of a day: that of its date, and no other.
use Rattle.std.proofs.Common.{◌≡◌, ℕ, ◌<◌, List, refl, arith, ℤ, pos, unsigned_abs}
use Rattle.gtd_calendar.specs.facts.Signed.{signed_arith, one_part}
use Rattle.gtd_calendar.specs.Calendar.{IsCalendarDay}
use Rattle.gtd_calendar.specs.ComputedDates.{year_of, month_of, day_of_month}
use Rattle.gtd_calendar.specs.Stamp.{IsDateText, date_text}
use Rattle.gtd_calendar.specs.facts.DateLemmas.{date_of-is, date_of-only, month_length_bounds}
use Rattle.gtd_calendar.specs.facts.OrderLemmas.{year_of-calendar}

-- the text that is computed of a day is the text of its date
pub date_text-is : (n : ℤ) → IsCalendarDay n → IsDateText n (date_text n)
date_text-is n h =
    let date = date_of-is n in
    let near = year_of-calendar n h in
    let part = one_part (year_of n) in
    let same : pos (unsigned_abs (year_of n)) ≡ year_of n = omega (arith, signed_arith) in
    let long = month_length_bounds (year_of n) (month_of n) in
    let year_in : unsigned_abs (year_of n) < 10000 = omega (arith, signed_arith) in
    record {
      year = unsigned_abs (year_of n);
      month = month_of n;
      day = day_of_month n;
      date = rw same date;
      shown = record { year_in = year_in; month_in = omega arith; day_in = omega arith; is = refl };
    }

-- a day has one text
pub date_text-only : (n : ℤ) (text : List ℕ) → IsDateText n text → text ≡ date_text n
date_text-only n text h =
    let only = date_of-only n (pos h.year) h.month h.day h.date in
    rw (← only.0, ← only.1, ← only.2) h.shown.is
