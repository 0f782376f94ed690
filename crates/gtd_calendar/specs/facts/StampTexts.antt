-- The text of a second: that of its date and clock, and no other.
use Rattle.std.proofs.Common.{◌≡◌, ℕ, ◌/◌, ◌%◌, List, ◌++◌, refl, ap, ℤ, pos}
use Rattle.gtd_core.specs.Seconds.{day_of_second}
use Rattle.gtd_calendar.specs.Calendar.{IsCalendarDay}
use Rattle.gtd_calendar.specs.Clock.{second_of_day}
use Rattle.gtd_calendar.specs.Stamp.{clock_text, stamp_text, IsStampText}
use Rattle.gtd_calendar.specs.facts.DateLemmas.{date_of-only}
use Rattle.gtd_calendar.specs.facts.DateTexts.{date_text-is}
use Rattle.gtd_calendar.specs.facts.TimeLemmas.{time_of-is, time_of-only}

-- the text that is computed of a second is the text of its date and clock
pub stamp_text-is : (s : ℤ) → IsCalendarDay (day_of_second s) → IsStampText s (stamp_text s)
stamp_text-is s h =
    let text = date_text-is (day_of_second s) h in
    let k = second_of_day s in (
      day_of_second s,
      text.year,
      text.month,
      text.day,
      k / 3600,
      k / 60 % 60,
      k % 60,
      text.shown.year_in,
      text.date,
      time_of-is s,
      ap (λ date. date ++ clock_text s) text.shown.is,
    )

-- a second has one text
pub stamp_text-only : (s : ℤ) (text : List ℕ) → IsStampText s text → text ≡ stamp_text s
stamp_text-only s text (number, year, month, day, hour, minute, second, year_in, date, time, shown) =
    let at = time_of-only s number hour minute second time in
    let only = date_of-only (day_of_second s) (pos year) month day (rw (← at.0) date) in
    rw (shown, ← only.0, ← only.1, ← only.2, ← at.1, ← at.2, ← at.3) refl
