-- The shapes of moments, and what reading one answers.
use Rattle.std.proofs.Common.{◌≡◌, ℕ, ◌<◌, true, false, ◌&&◌, ◌||◌, int_lt, List, ◌∷◌, take, drop, Option, Some, None, Result, Ok}
use Rattle.std.proofs.Common.{Err, refl, sym, ◌∙◌, arith, ℤ, pos, neg_ℤ, ◌+ℤ◌, ◌*ℤ◌}
use Rattle.std.proofs.lemmas.Bool.Decides.{nat_tests}
use Rattle.std.proofs.lemmas.Bool.{false_from_ne_true, true_from_ne_false, cond_both, and_parts, and_from, true≢false}
use Rattle.std.proofs.lemmas.List.{take-append-drop}
use Rattle.jiff_core.proofs.SignedLemmas.{signed_arith}
use Rattle.gtd_core.specs.declared.second.Sec.{Sec}
use Rattle.gtd_calendar.specs.declared.stamp.StampFault.{StampFault}
use Rattle.gtd_calendar.specs.declared.stamp.StampFault.TheVariants.{Shape, NoSuchDate, Range}
use Rattle.gtd_calendar.specs.Calendar.{IsDate, day_number, IsCalendarDay}
use Rattle.gtd_calendar.specs.Clock.{IsClock}
use Rattle.gtd_calendar.specs.Stamp.{IsYmdText, IsHmsText, IsMomentText, IsStampText, stamp_text, ymd_text, hms_text}
use Rattle.gtd_calendar.specs.facts.DateLemmas.{month_length_bounds}
use Rattle.gtd_calendar.specs.Read.{IsReadStamp, is_date, is_clock, second_in_range, second_if_any, second_number, ymd_in}
use Rattle.gtd_calendar.specs.Read.{hms_in, stamp_in}
use Rattle.gtd_calendar.specs.ReadParts.{IsYmd, IsHms, IsMoment, HasStampParts, IsReadByParts}
use Rattle.gtd_calendar.proofs.ShapeLemmas.{ymd_in-is, ymd_in-shape, hms_in-is, hms_in-shape}
use Rattle.gtd_core.specs.Seconds.{IsMomentSecond, day_of_second}
use Rattle.gtd_calendar.specs.facts.ClockLemmas.{second-parts}
use Rattle.gtd_calendar.specs.facts.StampTexts.{stamp_text-is}
use Rattle.gtd_calendar.proofs.StampLemmas.{is_date-true, is_date-parts}

-- a moment's first ten bytes are its date, and the others its clock
pub moment-parts : (text : List ℕ) (y m d h min s : ℕ) → IsMomentText text y m d h min s
    → IsYmdText (take 10 text) y m d × IsHmsText (drop 10 text) h min s
moment-parts text y m d h min s x = (rw first x.date, rw rest x.clock)
  where
    first : take 10 text ≡ x.front
    first = rw (x.is, x.date.is) refl

    rest : drop 10 text ≡ x.back
    rest = rw (x.is, x.date.is) refl

-- and they make it
pub moment-from : (text : List ℕ) (y m d h min s : ℕ) → IsYmdText (take 10 text) y m d
    → IsHmsText (drop 10 text) h min s → IsMomentText text y m d h min s
moment-from text y m d h min s date clock =
    record {
      front = take 10 text;
      back = drop 10 text;
      date = date;
      clock = clock;
      is = sym (take-append-drop 10 text);
    }

pub is_clock-true : (h m s : ℕ) → IsClock h m s → is_clock h m s ≡ true
is_clock-true h m s x = grind (arith, nat_tests)

pub is_clock-parts : (h m s : ℕ) → is_clock h m s ≡ true → IsClock h m s
is_clock-parts h m s e = grind (arith, nat_tests)

second-inside : (s : ℤ) → (int_lt s (neg_ℤ (pos 2_177_452_800)) || int_lt (pos 7_258_118_399) s) ≡ false
    → IsMomentSecond s
second-inside s e = grind (arith, signed_arith)

second-outside : (s : ℤ) → (int_lt s (neg_ℤ (pos 2_177_452_800)) || int_lt (pos 7_258_118_399) s) ≡ true
    → IsMomentSecond s → ⊥
second-outside s e h = grind (arith, signed_arith)

second_in_range-ok : (s : ℤ) → IsMomentSecond s → second_in_range s ≡ Ok (record { 0 = s })
second_in_range-ok s h = grind (arith, signed_arith)

second_in_range-err : (s : ℤ) → (IsMomentSecond s → ⊥) → second_in_range s ≡ Err Range
second_in_range-err s never =
    rw (true_from_ne_false (int_lt s (neg_ℤ (pos 2_177_452_800)) || int_lt (pos 7_258_118_399) s)
    (λ e. never (second-inside s e))) refl

-- what a text that is no moment is read as
unshaped : (text : List ℕ) (x c : Option (ℕ × ℕ × ℕ)) → IsYmd (take 10 text) x → IsHms (drop 10 text) c
    → ((y m d h min s : ℕ) → IsMomentText text y m d h min s → ⊥) → second_if_any x c ≡ Err Shape
unshaped text None c date clock never = refl
unshaped text (Some x) None date clock never = refl
unshaped text (Some x) (Some c) date clock never = absurd
    (never x.0 x.1 x.2 c.0 c.1 c.2 (moment-from text x.0 x.1 x.2 c.0 c.1 c.2 date clock))

-- what a text with these numbers is read as
numbered : (text : List ℕ) (y m d h min s : ℕ) → IsMomentText text y m d h min s
    → stamp_in text ≡ second_if_any (Some (y, m, d)) (Some (h, min, s))
unfolding stamp_in
numbered text y m d h min s x =
    let parts = moment-parts text y m d h min s x in
    rw (ymd_in-is (take 10 text) y m d parts.0, hms_in-is (drop 10 text) h min s parts.1) refl

shapeless : (text : List ℕ) → ((y m d h min s : ℕ) → IsMomentText text y m d h min s → ⊥) → stamp_in text ≡ Err Shape
unfolding stamp_in
shapeless text h = unshaped text (ymd_in (take 10 text)) (hms_in (drop 10 text)) (ymd_in-shape (take 10 text))
    (hms_in-shape (drop 10 text)) h

-- the text of a second has its parts
stamp-parts : (s : ℤ) (text : List ℕ) → IsStampText s text → HasStampParts s text
stamp-parts s text (number, year, month, day, hour, minute, second, year_in, date, time, shown) =
    let long = month_length_bounds (pos year) month in
    record {
      number = number;
      year = year;
      month = month;
      day = day;
      hour = hour;
      minute = minute;
      second = second;
      date = date;
      clock = time.clock;
      is = time.is;
      shown = record {
        front = ymd_text year month day;
        back = 84 ∷ hms_text hour minute second;
        date = record { year_in = year_in; month_in = omega arith; day_in = omega arith; is = refl };
        clock = record { hour_in = omega arith; minute_in = omega arith; second_in = omega arith; is = refl };
        is = shown;
      };
    }

-- and the parts make it
stamp-from : (s : ℤ) (text : List ℕ) → HasStampParts s text → IsStampText s text
stamp-from s text h = (
  h.number,
  h.year,
  h.month,
  h.day,
  h.hour,
  h.minute,
  h.second,
  h.shown.date.year_in,
  h.date,
  record { clock = h.clock; is = h.is },
  rw (h.shown.is, h.shown.date.is, h.shown.clock.is) refl,
)

-- what is read by its parts is read
read-from : (text : List ℕ) (r : Result Sec StampFault) → IsReadByParts text r → IsReadStamp text r
read-from text (Ok x) h = (stamp-from x.0 text h.0, h.1)
read-from text (Err Shape) h = h
read-from text (Err NoSuchDate) h = h
read-from text (Err Range) (s, h, never) = (s, stamp-from s text h, never)

-- what a text that shows a second is read as
shown-as : (text : List ℕ) (s : ℤ) → IsStampText s text → stamp_in text ≡ second_in_range s
shown-as text s h =
    let is = stamp-parts s text h in
    rw (
      numbered text is.year is.month is.day is.hour is.minute is.second is.shown,
      is_date-true (pos is.year) is.month is.day is.date.0,
      is_clock-true is.hour is.minute is.second is.clock,
      ← is.date.1,
      ← is.is,
    )
    refl

-- a text is read in one way alone
pub stamp_in-only : (text : List ℕ) (r : Result Sec StampFault) → IsReadStamp text r → r ≡ stamp_in text
stamp_in-only text (Ok x) h = sym (shown-as text x.0 h.0 ∙ second_in_range-ok x.0 h.1)
stamp_in-only text (Err Shape) h = sym (shapeless text h)
stamp_in-only text (Err NoSuchDate) (y, m, d, h, min, s, shape, never) =
    let none : (is_date (pos y) m d && is_clock h min s) ≡ false =
    false_from_ne_true (is_date (pos y) m d && is_clock h min s) (λ e. let both = and_parts (is_date (pos y) m d)
    (is_clock h min s) e in never (is_date-parts (pos y) m d both.0) (is_clock-parts h min s both.1)) in
    rw (numbered text y m d h min s shape, none) refl
stamp_in-only text (Err Range) (s, is, never) = sym (shown-as text s is ∙ second_in_range-err s never)

-- nor by its parts
pub parts_in-only : (text : List ℕ) (r : Result Sec StampFault) → IsReadByParts text r → r ≡ stamp_in text
parts_in-only text r h = stamp_in-only text r (read-from text r h)

-- and it is read in that way
pub stamp_in-is : (text : List ℕ) → IsReadStamp text (stamp_in text)
unfolding stamp_in
stamp_in-is text =
    answered text (ymd_in (take 10 text)) (hms_in (drop 10 text)) (ymd_in-shape (take 10 text))
    (hms_in-shape (drop 10 text))
  where
    ranged : (text : List ℕ) (y m d h min s : ℕ) → IsMomentText text y m d h min s → IsDate (pos y) m d
        → IsClock h min s
        → IsReadStamp text (second_in_range (second_number (y, m, d) (h, min, s)))
    ranged text y m d h min s shown date clock =
        let n = second_number (y, m, d) (h, min, s) in
        let is : IsStampText n text = (
          day_number (pos y) m d,
          y,
          m,
          d,
          h,
          min,
          s,
          shown.date.year_in,
          (date, refl),
          record { clock = clock; is = refl },
          rw (shown.is, shown.date.is, shown.clock.is) refl,
        ) in
        cond_both (int_lt n (neg_ℤ (pos 2_177_452_800)) || int_lt (pos 7_258_118_399) n) (Err Range)
        (Ok (record { 0 = n })) (IsReadStamp text)
        (λ e. (n, is, second-outside n e))
        (λ e. (is, second-inside n e))

    answered : (text : List ℕ) (x c : Option (ℕ × ℕ × ℕ)) → IsYmd (take 10 text) x → IsHms (drop 10 text) c
        → IsReadStamp text (second_if_any x c)
    answered text None c date clock = λ y m d h min s shown. date y m d (moment-parts text y m d h min s shown).0
    answered text (Some x) None date clock = λ y m d h min s shown. clock h min s
        (moment-parts text y m d h min s shown).1
    answered text (Some x) (Some c) date clock =
        let shown = moment-from text x.0 x.1 x.2 c.0 c.1 c.2 date clock in
        cond_both (is_date (pos x.0) x.1 x.2 && is_clock c.0 c.1 c.2) (second_in_range (second_number x c))
        (Err NoSuchDate) (IsReadStamp text)
        (λ e. let both = and_parts (is_date (pos x.0) x.1 x.2) (is_clock c.0 c.1 c.2) e in
        ranged text x.0 x.1 x.2 c.0 c.1 c.2 shown (is_date-parts (pos x.0) x.1 x.2 both.0)
        (is_clock-parts c.0 c.1 c.2 both.1))
        (λ e. (
          x.0,
          x.1,
          x.2,
          c.0,
          c.1,
          c.2,
          shown,
          λ d k. true≢false
              (sym (and_from (is_date (pos x.0) x.1 x.2) (is_clock c.0 c.1 c.2) (is_date-true (pos x.0) x.1 x.2 d)
              (is_clock-true c.0 c.1 c.2 k)) ∙ e),
        ))

-- the day of a second that is read is one of the calendar
readable-day : (s : ℤ) → IsMomentSecond s → IsCalendarDay (day_of_second s)
readable-day s h =
    let parts = second-parts s in
    near s (day_of_second s) _ parts.0 parts.1 h
  where
    near : (s n : ℤ) (k : ℕ) → s ≡ pos 86400 *ℤ n +ℤ pos k → k < 86400 → IsMomentSecond s → IsCalendarDay n
    near s n k e low h = (omega (arith, signed_arith), omega (arith, signed_arith))

-- what is written of a second that is read is read again
pub stamp_in-again : (s : ℤ) → IsMomentSecond s → stamp_in (stamp_text s) ≡ Ok (record { 0 = s })
stamp_in-again s h = sym (stamp_in-only (stamp_text s) (Ok (record { 0 = s })) (stamp_text-is s (readable-day s h), h))

-- a text is no moment if what follows its first ten bytes is no clock
pub unclocked : (text back : List ℕ) → back ≡ drop 10 text → IsHms back None → IsMoment text None
unclocked text back e none y m d hour min sec shown = none hour min sec
    (rw e (moment-parts text y m d hour min sec shown).1)
