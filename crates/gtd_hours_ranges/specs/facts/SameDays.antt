-- A range that is written is one selector.
use mathlib.Core.HLevel.{is_prop→PathP}
use Rattle.std.proofs.Common.{◌≡◌, inl, inr, refl, sym, ap, subst, ◌∙◌, ℕ, ◌+◌, Bool, true, false, ℤ, pos, neg_ℤ, ◌+ℤ◌, ◌-ℤ◌}
use Rattle.std.proofs.Common.{◌≤ℤ◌, ◌<ℤ◌, ◌||◌}
use Rattle.std.proofs.Common.{Option, Some, None, arith}
use Rattle.std.proofs.Props.{props}
use Rattle.gtd_calendar.specs.Calendar.{day_number}
use Rattle.gtd_calendar.specs.facts.DateLemmas.{date-unique}
use Rattle.gtd_calendar.specs.facts.Signed.{signed_arith}
use Rattle.gtd_hours.specs.Moving.{IsMoving}
use Rattle.gtd_hours.specs.ComputedPlaces.{end_day}
use Rattle.gtd_hours.specs.Ranges.{IsDatedRange, IsMonth, IsMovable, IsWeekdayPlace}
use Rattle.gtd_hours.specs.Ranges as ranges
use Rattle.gtd_hours.specs.facts.OrderFacts.{order-to}
use Rattle.gtd_hours.specs.facts.PlaceFacts.{end-is, end-only}
use Rattle.gtd_hours.specs.declared.hours.Dated.{Dated}
use Rattle.gtd_hours.specs.declared.hours.MonthDay.{MonthDay}
use Rattle.gtd_hours.specs.declared.hours.Selector.TheVariants as selector
use Rattle.gtd_hours.specs.declared.hours.WeekdayPlace.{WeekdayPlace}
use Rattle.gtd_hours.specs.declared.hours.YearDate.{YearDate}
use Rattle.gtd_hours.specs.declared.moving.Moving.{Moving}
use Rattle.gtd_hours.specs.declared.places.End.{End}
use Rattle.gtd_hours.specs.declared.places.End.TheVariants as end
use Rattle.gtd_hours.specs.declared.places.MonthPlace.{MonthPlace}
use Rattle.gtd_hours.specs.declared.places.MovedPlace.{MovedPlace}
use Rattle.gtd_hours_ranges.specs.declared.written.WrittenEnd.{WrittenEnd}
use Rattle.gtd_hours_holidays.specs.Easter.{easter_day, easter_month}
use Rattle.gtd_hours_days.specs.EasterRanges.{IsDayIn, IsEasterRange, has_each_year, is_easter}
use Rattle.gtd_hours_days.specs.declared.easter_range.EasterRange.{EasterRange}
use Rattle.gtd_hours_days.specs.declared.offset.Offset.{Offset}
use Rattle.gtd_hours_days.specs.declared.yearly_day.YearlyDay.{YearlyDay}
use Rattle.gtd_hours_days.specs.declared.yearly_day.YearlyDay.TheVariants as yearly
use Rattle.gtd_hours_ranges.specs.declared.days.RangeDays.{RangeDays}
use Rattle.gtd_hours_ranges.specs.declared.days.RangeDays.TheVariants as days
use Rattle.gtd_hours_ranges.specs.declared.written.WrittenEnd.TheVariants.{Day, Easter, Place}
use Rattle.gtd_hours_ranges.specs.declared.written.WrittenRange.{WrittenRange}
use Rattle.gtd_hours_ranges.specs.Days.{AreDates, AreDays, IsDateIn, IsDaysOf, IsEndOf, IsLastDate, IsLaterDate, IsNextDate}
use Rattle.gtd_hours_ranges.specs.Days.{day_of, next_year}

-- ---- values with the same numbers are the same

same_month_day : (x y : MonthDay) → x.month ≡ y.month → x.day ≡ y.day → x ≡ y
same_month_day x y month day = λ i. record {
  month = month i;
  day = day i;
  in_range = is_prop→PathP (λ j. ranges.IsMonthDay (month j) (day j)) (λ j. hlevel props) x.in_range y.in_range i;
}

same_year_date : (x y : YearDate) → x.year ≡ y.year → x.month ≡ y.month → x.day ≡ y.day → x ≡ y
same_year_date x y year month day = λ i. record {
  year = year i;
  month = month i;
  day = day i;
  is_date = is_prop→PathP (λ j. ranges.IsYearDate (year j) (month j) (day j)) (λ j. hlevel props) x.is_date y.is_date i;
}

abbrev pub InRange : YearDate → YearDate → Type 0
InRange first last = IsDatedRange first.year first.month first.day last.year last.month last.day

same_dated : (x y : Dated) → x.first ≡ y.first → x.last ≡ y.last → x ≡ y
same_dated x y first last = λ i. record {
  first = first i;
  last = last i;
  in_range = is_prop→PathP (λ j. InRange (first j) (last j)) (λ j. hlevel props) x.in_range y.in_range i;
}

same_place : (x y : WeekdayPlace) → x.weekday ≡ y.weekday → x.number ≡ y.number → x ≡ y
same_place x y weekday number = λ i. record {
  weekday = weekday i;
  number = number i;
  in_range = is_prop→PathP (λ j. IsWeekdayPlace (weekday j) (number j)) (λ j. hlevel props) x.in_range y.in_range i;
}

same_moved : (x y : MovedPlace) → x.place ≡ y.place → x.is_back ≡ y.is_back → x.days ≡ y.days → x.is_before ≡ y.is_before
    → x ≡ y
same_moved x y place back days before = λ i. record {
  place = place i;
  is_back = back i;
  days = days i;
  is_before = before i;
  in_range = is_prop→PathP (λ j. IsMovable (place j).number (back j) (days j) (before j)) (λ j. hlevel props) x.in_range
      y.in_range i;
}

same_month_place : (x y : MonthPlace) → x.month ≡ y.month → x.place ≡ y.place → x ≡ y
same_month_place x y month place = λ i. record {
  month = month i;
  place = place i;
  month_in = is_prop→PathP (λ j. IsMonth (month j)) (λ j. hlevel props) x.month_in y.month_in i;
}

same_moving : (x y : Moving) → x.first ≡ y.first → x.last ≡ y.last → x.is_over ≡ y.is_over → x ≡ y
same_moving x y first last over = λ i. record {
  first = first i;
  last = last i;
  is_over = over i;
  in_order = is_prop→PathP (λ j. IsMoving (over j) (first j) (last j)) (λ j. hlevel props) x.in_order y.in_order i;
}

same_offset : (x y : Offset) → x.days ≡ y.days → x ≡ y
same_offset x y days = λ i. record {
  days = days i;
  in_range = is_prop→PathP (λ j. (neg_ℤ (pos 366) ≤ℤ days j) × (days j ≤ℤ pos 366)) (λ j. hlevel props) x.in_range y.in_range
      i;
}

same_easter_range : (x y : EasterRange) → x.first ≡ y.first → x.last ≡ y.last → x.is_over ≡ y.is_over → x ≡ y
same_easter_range x y first last over = λ i. record {
  first = first i;
  last = last i;
  is_over = over i;
  in_order = is_prop→PathP (λ j. IsEasterRange (over j) (first j) (last j)) (λ j. hlevel props) x.in_order y.in_order i;
}

-- a date is one by its day, and a range of dates by its first and its last
pub same_date : (x y : YearDate) → day_of x ≡ day_of y → x ≡ y
same_date x y same =
    let one = date-unique (day_of x) (pos x.year) (pos y.year) x.month x.day y.month y.day (x.is_date.1, refl)
    (y.is_date.1, same) in
    let year : x.year ≡ y.year = cc in
    same_year_date x y year one.1 one.2

pub same_range : (x y : Dated) → day_of x.first ≡ day_of y.first → day_of x.last ≡ day_of y.last → x ≡ y
same_range x y first last = same_dated x y (same_date x.first y.first first) (same_date x.last y.last last)

-- ---- ends and dates

pub one_end : (written : WrittenEnd) (x y : YearlyDay) → IsEndOf written x → IsEndOf written y → x ≡ y
one_end (Day month day) (yearly.Calendar (end.Date x)) (yearly.Calendar (end.Date y)) h k =
    ap (λ (d : MonthDay). yearly.Calendar (end.Date d)) (same_month_day x y (h.0 ∙ sym k.0) (h.1 ∙ sym k.1))
one_end (Day month day) (yearly.Calendar (end.Date x)) (yearly.Calendar (end.Place y)) h k = absurd k
one_end (Day month day) (yearly.Calendar (end.Date x)) (yearly.Easter y) h k = absurd k
one_end (Day month day) (yearly.Calendar (end.Place x)) y h k = absurd h
one_end (Day month day) (yearly.Easter x) y h k = absurd h
one_end (Place p days before) (yearly.Calendar (end.Place x)) (yearly.Calendar (end.Place y)) h k =
    ap (λ (d : MonthPlace). yearly.Calendar (end.Place d)) (
    same_month_place x y (h.0 ∙ sym k.0)
    (same_moved x.place y.place (same_place x.place.place y.place.place (h.1 ∙ sym k.1) (h.2 ∙ sym k.2)) (h.3 ∙ sym k.3)
    (h.4 ∙ sym k.4) (h.5 ∙ sym k.5))
    )
one_end (Place p days before) (yearly.Calendar (end.Place x)) (yearly.Calendar (end.Date y)) h k = absurd k
one_end (Place p days before) (yearly.Calendar (end.Place x)) (yearly.Easter y) h k = absurd k
one_end (Place p days before) (yearly.Calendar (end.Date x)) y h k = absurd h
one_end (Place p days before) (yearly.Easter x) y h k = absurd h
one_end (Easter days before from) (yearly.Easter x) (yearly.Easter y) h k = ap yearly.Easter (same_offset x y (h ∙ sym k))
one_end (Easter days before from) (yearly.Easter x) (yearly.Calendar y) h k = absurd k
one_end (Easter days before from) (yearly.Calendar x) y h k = absurd h

one_day : (x : YearlyDay) (y : ℕ) (n m : ℤ) → IsDayIn x y n → IsDayIn x y m → n ≡ m
one_day (yearly.Calendar e) y n m h k = end-only e (pos y) n h ∙ sym (end-only e (pos y) m k)
one_day (yearly.Easter offset) y n m h k = same n m offset.days (h ∙ sym k)
  where
    same : (n m d : ℤ) → n -ℤ d ≡ m -ℤ d → n ≡ m
    same n m d e = omega (arith, signed_arith, e)

pub one_date : (e : YearlyDay) (year : ℕ) (x y : YearDate) → IsDateIn e year x → IsDateIn e year y → x ≡ y
one_date e year x y h k = same_date x y (one_day e year (day_of x) (day_of y) h.1 k.1)

one_later : (e : YearlyDay) (year : ℕ) (first x y : YearDate) → IsLaterDate e year first x → IsLaterDate e year first y → x ≡ y
one_later e year first x y (inl h) (inl k) = one_date e year x y h.0 k.0
one_later e year first x y (inl h) (inr k) = absurd (k.1 x h)
one_later e year first x y (inr h) (inl k) = absurd (h.1 y k)
one_later e year first x y (inr h) (inr k) = one_date e (year + 1) x y h.0 k.0

pub one_next : (e : YearlyDay) (year : ℕ) (first x y : YearDate) → IsNextDate e year first x → IsNextDate e year first y → x ≡ y
one_next (yearly.Calendar (end.Date d)) year first x y h k =
    one_date (yearly.Calendar (end.Date d)) (next_year year d first) x y h k
one_next (yearly.Calendar (end.Place p)) year first x y h k = one_later (yearly.Calendar (end.Place p)) year first x y h k
one_next (yearly.Easter o) year first x y h k = one_later (yearly.Easter o) year first x y h k

pub one_last : (last_year : Option ℕ) (e : YearlyDay) (year : ℕ) (first x y : YearDate) → IsLastDate last_year e year first x
    → IsLastDate last_year e year first y → x ≡ y
one_last None e year first x y h k = one_next e year first x y h k
one_last (Some last_year) e year first x y h k = one_date e last_year x y h k

-- ---- ranges

pub one_dates : (year : ℕ) (last_year : Option ℕ) (first last : YearlyDay) (x y : Dated) → AreDates year last_year first last x
    → AreDates year last_year first last y → x ≡ y
one_dates year last_year first last x y h k =
    let begin : x.first ≡ y.first = one_date first year x.first y.first h.0 k.0 in
    let there = subst (λ (d : YearDate). IsLastDate last_year last year d x.last) begin h.1 in
    same_dated x y begin (one_last last_year last year y.first x.last y.last there k.1)

late : (a b : ℤ) → a ≤ℤ b → b <ℤ a → ⊥
late a b p q = omega (arith, signed_arith, p, q)

-- A range goes over the end of each year, or of none.
apart : (first last : End) → IsMoving true first last → IsMoving false first last → ⊥
apart first last h k =
    let over = order-to true first last h.0 h.1 h.3 (pos 2000) in
    let within = order-to false first last k.0 k.1 k.3 (pos 2001) in
    late (end_day first (pos 2001)) (end_day last (pos 2001)) within.0 over.1

one_over : (over other : Bool) (first last : End) → IsMoving over first last → IsMoving other first last → over ≡ other
one_over true true first last h k = refl
one_over false false first last h k = refl
one_over true false first last h k = absurd (apart first last h k)
one_over false true first last h k = absurd (apart first last k h)

pub one_moving : (x y : Moving) → x.first ≡ y.first → x.last ≡ y.last → x ≡ y
one_moving x y first last =
    let there = subst (λ (e : End). IsMoving x.is_over e y.last) first
    (subst (λ (e : End). IsMoving x.is_over x.first e) last x.in_order) in
    same_moving x y first last (one_over x.is_over y.is_over y.first y.last there y.in_order)

day_there : (x : YearlyDay) (y : ℕ) → has_each_year x ≡ true → (n : ℤ) × IsDayIn x y n
day_there (yearly.Calendar e) y each = (end_day e (pos y), end-is e (pos y) each)
day_there (yearly.Easter offset) y each =
    let n = day_number (pos y) (easter_month y) (easter_day y) in
    (n +ℤ offset.days, omega (arith, signed_arith))

easter_apart : (first last : YearlyDay) → IsEasterRange true first last → IsEasterRange false first last → ⊥
easter_apart first last h k =
    let a = day_there first 1800 h.0 in
    let b = day_there last 1800 h.1 in
    late a.0 b.0 ((k.3.0 1800 (omega arith) (omega arith) a.0 b.0 a.1 b.1).0 refl)
    ((h.3.0 1800 (omega arith) (omega arith) a.0 b.0 a.1 b.1).1 refl)

one_easter_over : (over other : Bool) (first last : YearlyDay) → IsEasterRange over first last → IsEasterRange other first last
    → over ≡ other
one_easter_over true true first last h k = refl
one_easter_over false false first last h k = refl
one_easter_over true false first last h k = absurd (easter_apart first last h k)
one_easter_over false true first last h k = absurd (easter_apart first last k h)

pub one_easter_range : (x y : EasterRange) → x.first ≡ y.first → x.last ≡ y.last → x ≡ y
one_easter_range x y first last =
    let there = subst (λ (e : YearlyDay). IsEasterRange x.is_over e y.last) first
    (subst (λ (e : YearlyDay). IsEasterRange x.is_over x.first e) last x.in_order) in
    same_easter_range x y first last (one_easter_over x.is_over y.is_over y.first y.last there y.in_order)

-- no end of a range with Easter is a date or a place, if the other one is
pub not_easter : (first last : End) (x : EasterRange) → x.first ≡ yearly.Calendar first → x.last ≡ yearly.Calendar last → ⊥
not_easter first last x e f =
    let there = subst (λ (d : YearlyDay). (is_easter d || is_easter (yearly.Calendar last)) ≡ true) e
    (subst (λ (d : YearlyDay). (is_easter x.first || is_easter d) ≡ true) f x.in_order.2) in
    cc

pub one_selector : (year last_year : Option ℕ) (first last : YearlyDay) (x y : RangeDays) → AreDays year last_year first last x
    → AreDays year last_year first last y → x ≡ y
one_selector None None (yearly.Calendar first) (yearly.Calendar last) (days.Always (selector.Moving x))
    (days.Always (selector.Moving y)) h k =
    ap (λ (z : Moving). days.Always (selector.Moving z)) (one_moving x y (h.0 ∙ sym k.0) (h.1 ∙ sym k.1))
one_selector None None (yearly.Calendar first) (yearly.Calendar last) (days.Always (selector.Moving x)) (days.Easter y) h k =
    absurd (not_easter first last y k.0 k.1)
one_selector None None (yearly.Calendar first) (yearly.Calendar last) (days.Easter x) y h k =
    absurd (not_easter first last x h.0 h.1)
one_selector None None (yearly.Easter first) last (days.Easter x) (days.Easter y) h k =
    ap days.Easter (one_easter_range x y (h.0 ∙ sym k.0) (h.1 ∙ sym k.1))
one_selector None None (yearly.Calendar first) (yearly.Easter last) (days.Easter x) (days.Easter y) h k =
    ap days.Easter (one_easter_range x y (h.0 ∙ sym k.0) (h.1 ∙ sym k.1))
one_selector (Some year) last_year first last (days.Always (selector.Dated x)) (days.Always (selector.Dated y)) h k =
    ap (λ (z : Dated). days.Always (selector.Dated z)) (one_dates year last_year first last x y h k)
one_selector (Some year) last_year first last (days.Always (selector.Dated x)) y h k = absurd k
one_selector None None (yearly.Calendar first) (yearly.Calendar last) (days.Always (selector.Moving x)) y h k = absurd k
one_selector None None (yearly.Easter first) last (days.Easter x) y h k = absurd k
one_selector None None (yearly.Calendar first) (yearly.Easter last) (days.Easter x) y h k = absurd k
one_selector year last_year first last x y h k = absurd h

pub one_days : (range : WrittenRange) (x y : RangeDays) → IsDaysOf range x → IsDaysOf range y → x ≡ y
one_days range x y h k =
    let first : h.0 ≡ k.0 = one_end range.first h.0 k.0 h.2 k.2 in
    let last : h.1 ≡ k.1 = one_end range.last h.1 k.1 h.3 k.3 in
    let there = subst (λ (e : YearlyDay). AreDays range.year range.last_year e k.1 x) first
    (subst (λ (e : YearlyDay). AreDays range.year range.last_year h.0 e x) last h.4) in
    one_selector range.year range.last_year k.0 k.1 x y there k.4
