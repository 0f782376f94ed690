-- Where there is no end, no date or no range.
use Rattle.std.proofs.Common.{◌≡◌, ◌∙◌, ◌↔◌, inl, inr, refl, sym, subst, ℕ, ◌+◌, ◌<◌, ◌≤◌, Bool, true, false, arith}
use Rattle.std.proofs.Common.{ℤ, pos, neg_ℤ, ◌-ℤ◌, ◌≤ℤ◌, Option, Some, None}
use Rattle.std.specs.Prelude.{IfNone, IfSome, IsSome}
use Rattle.gtd_calendar.specs.facts.Signed.{signed_arith}
use Rattle.gtd_hours_holidays.specs.Easter.{IsEaster}
use Rattle.gtd_hours.specs.Moving.{IsMoving, day_from}
use Rattle.gtd_calendar.specs.Calendar.{IsCalendarDay}
use Rattle.gtd_hours.proofs.DateFacts.{in-calendar}
use Rattle.gtd_hours.specs.declared.hours.Dated.{Dated}
use Rattle.gtd_hours.specs.declared.hours.Selector.TheVariants as selector
use Rattle.gtd_hours.specs.declared.hours.YearDate.{YearDate}
use Rattle.gtd_hours.specs.declared.places.End.{End}
use Rattle.gtd_hours.specs.declared.places.End.TheVariants as end
use Rattle.gtd_hours.specs.declared.places.MonthPlace.{MonthPlace}
use Rattle.gtd_hours_days.specs.EasterRanges.{IsEasterRange}
use Rattle.gtd_hours_days.specs.declared.easter_range.EasterRange.{EasterRange}
use Rattle.gtd_hours_days.specs.declared.offset.Offset.{Offset}
use Rattle.gtd_hours_days.specs.declared.yearly_day.YearlyDay.{YearlyDay}
use Rattle.gtd_hours_days.specs.declared.yearly_day.YearlyDay.TheVariants as yearly
use Rattle.gtd_hours_ranges.specs.declared.days.RangeDays.{RangeDays}
use Rattle.gtd_hours_ranges.specs.declared.days.RangeDays.TheVariants as days
use Rattle.gtd_hours_ranges.specs.declared.written.WrittenEnd.TheVariants.{Easter, Place}
use Rattle.gtd_hours_ranges.specs.declared.written.WrittenPlace.{WrittenPlace}
use Rattle.gtd_hours_ranges.specs.declared.written.WrittenRange.{WrittenRange}
use Rattle.gtd_hours_ranges.specs.Days.{AreDates, AreDays, IsDateIn, IsDaysOf, IsEndOf, IsLastDate, IsLateDate}
use Rattle.gtd_hours_ranges.specs.Days.{IsLaterDate, IsPlaceOf, day_of}
use Rattle.gtd_hours_ranges.specs.facts.SameDays.{InRange, not_easter, one_date, one_end, one_last}

pub if_none : {X p q : Type 0} (o : Option X) → (p → q) → IfNone o p → IfNone o q
if_none None f h = f h
if_none (Some x) f h = h

pub if_some : {X : Type 0} {p q : X → Type 0} (o : Option X) → ((x : X) → p x → q x) → IfSome o p → IfSome o q
if_some None f h = h
if_some (Some x) f h = f x h

pub unless_some : {X p q : Type 0} (o : Option X) → (IsSome o ↔ q) → ((q → ⊥) → p) → IfNone o p
unless_some None same f = f (λ x. let yes = same.1 x in cc)
unless_some (Some x) same f = tt

-- ---- ends

pub no_place : (written : WrittenPlace) (days : ℕ) (before : Bool) → ((x : MonthPlace) → IsPlaceOf written days before x → ⊥)
    → (x : YearlyDay) → IsEndOf (Place written days before) x → ⊥
no_place written days before none (yearly.Calendar (end.Date x)) h = h
no_place written days before none (yearly.Calendar (end.Place x)) h = none x h
no_place written days before none (yearly.Easter x) h = h

pub no_easter : (days : ℕ) (before : Bool) (from : ℕ) → ((x : Offset) → x.days ≡ day_from before days (pos 0) → ⊥)
    → (x : YearlyDay) → IsEndOf (Easter days before from) x → ⊥
no_easter days before from none (yearly.Calendar x) h = h
no_easter days before from none (yearly.Easter x) h = none x h

too_far : (before : Bool) (k : ℕ) (d : ℤ) → 366 < k → neg_ℤ (pos 366) ≤ℤ d → d ≤ℤ pos 366 → d ≡ day_from before k (pos 0) → ⊥
too_far true k d far low high e = omega (arith, signed_arith, far, low, high, e)
too_far false k d far low high e = omega (arith, signed_arith, far, low, high, e)

-- an offset has at most 366 days
pub no_offset : (before : Bool) (k : ℕ) → 366 < k → (x : Offset) → x.days ≡ day_from before k (pos 0) → ⊥
no_offset before k far x e = too_far before k x.days far x.in_range.0 x.in_range.1 e

-- ---- dates

pub date-day : (x : YearlyDay) (year : ℕ) (d : YearDate) → IsDateIn x year d → IsCalendarDay (day_of d)
date-day x year d h = in-calendar (day_of d) (pos d.year) d.month d.day d.is_date.0 (d.is_date.1, refl)

pub easter-date : (offset : Offset) (year : ℕ) (n : ℤ) (d : YearDate) → (1800 ≤ year) × (year ≤ 2799)
    → IsEaster year (n -ℤ offset.days) → day_of d ≡ n → IsDateIn (yearly.Easter offset) year d
easter-date offset year n d range is e = (
  (let low = range.0 in omega (arith, signed_arith, low), let high = range.1 in omega (arith, signed_arith, high)),
  subst (λ (z : ℤ). IsEaster year (z -ℤ offset.days)) (sym e) is,
)

pub easter-none : (offset : Offset) (year : ℕ) (n : ℤ) → IsEaster year (n -ℤ offset.days) → (IsCalendarDay n → ⊥)
    → (x : YearDate) → IsDateIn (yearly.Easter offset) year x → ⊥
easter-none offset year n is out x h =
    out (subst IsCalendarDay (same (day_of x) n offset.days (h.1 ∙ sym is)) (date-day (yearly.Easter offset) year x h))
  where
    same : (m n d : ℤ) → m -ℤ d ≡ n -ℤ d → m ≡ n
    same m n d e = omega (arith, signed_arith, e)

pub not-late : (e : YearlyDay) (year : ℕ) (first date : YearDate) → IsDateIn e year date → (day_of first ≤ℤ day_of date → ⊥)
    → (x : YearDate) → IsLateDate e year first x → ⊥
not-late e year first date here early x h =
    early (subst (λ (d : YearDate). day_of first ≤ℤ day_of d) (one_date e year x date h.0 here) h.1)

pub no_later : (e : YearlyDay) (year : ℕ) (first : YearDate) → ((x : YearDate) → IsLateDate e year first x → ⊥)
    → ((x : YearDate) → IsDateIn e (year + 1) x → ⊥) → (x : YearDate) → IsLaterDate e year first x → ⊥
no_later e year first early none x (inl h) = early x h
no_later e year first early none x (inr h) = none x h.0

-- ---- ranges

pub no_moving : (first last : End) → ((over : Bool) → IsMoving over first last → ⊥) → (x : RangeDays)
    → AreDays None None (yearly.Calendar first) (yearly.Calendar last) x → ⊥
no_moving first last none (days.Always (selector.Moving x)) h =
    none x.is_over (subst (λ (e : End). IsMoving x.is_over first e) h.1
    (subst (λ (e : End). IsMoving x.is_over e x.last) h.0 x.in_order))
no_moving first last none (days.Easter x) h = not_easter first last x h.0 h.1
no_moving first last none x h = absurd h

pub no_easter_range : (first last : YearlyDay) → ((over : Bool) → IsEasterRange over first last → ⊥) → (x : EasterRange)
    → (x.first ≡ first) × (x.last ≡ last) → ⊥
no_easter_range first last none x h =
    none x.is_over (subst (λ (e : YearlyDay). IsEasterRange x.is_over first e) h.1
    (subst (λ (e : YearlyDay). IsEasterRange x.is_over e x.last) h.0 x.in_order))

pub none_from : (offset : Offset) (last : YearlyDay)
    → ((x : EasterRange) → (x.first ≡ yearly.Easter offset) × (x.last ≡ last) → ⊥) → (x : RangeDays)
    → AreDays None None (yearly.Easter offset) last x → ⊥
none_from offset last none (days.Easter x) h = none x h
none_from offset last none x h = absurd h

pub none_to : (first : End) (offset : Offset)
    → ((x : EasterRange) → (x.first ≡ yearly.Calendar first) × (x.last ≡ yearly.Easter offset) → ⊥) → (x : RangeDays)
    → AreDays None None (yearly.Calendar first) (yearly.Easter offset) x → ⊥
none_to first offset none (days.Easter x) h = none x h
none_to first offset none x h = absurd h

pub no_dates : (year : ℕ) (last_year : Option ℕ) (first last : YearlyDay) (date : YearDate) → IsDateIn first year date
    → ((d : YearDate) → IsLastDate last_year last year date d → ⊥) → (x : Dated) → AreDates year last_year first last x → ⊥
no_dates year last_year first last date here none x h =
    let begin : x.first ≡ date = one_date first year x.first date h.0 here in
    none x.last (subst (λ (d : YearDate). IsLastDate last_year last year d x.last) begin h.1)

pub dates_range : (year : ℕ) (last_year : Option ℕ) (first last : YearlyDay) (date last_date : YearDate)
    → IsDateIn first year date → IsLastDate last_year last year date last_date → (x : Dated)
    → AreDates year last_year first last x → InRange date last_date
dates_range year last_year first last date last_date here there x h =
    let begin : x.first ≡ date = one_date first year x.first date h.0 here in
    let is = subst (λ (d : YearDate). IsLastDate last_year last year d x.last) begin h.1 in
    let to : x.last ≡ last_date = one_last last_year last year date x.last last_date is there in
    subst (λ (d : YearDate). InRange date d) to (subst (λ (d : YearDate). InRange d x.last) begin x.in_range)

pub no_days : (range : WrittenRange) (first last : YearlyDay) → IsEndOf range.first first → IsEndOf range.last last
    → ((x : RangeDays) → AreDays range.year range.last_year first last x → ⊥) → (x : RangeDays) → IsDaysOf range x → ⊥
no_days range first last is_first is_last none x h =
    let same : h.0 ≡ first = one_end range.first h.0 first h.2 is_first in
    let too : h.1 ≡ last = one_end range.last h.1 last h.3 is_last in
    none x (subst (λ (e : YearlyDay). AreDays range.year range.last_year first e x) too
    (subst (λ (e : YearlyDay). AreDays range.year range.last_year e h.1 x) same h.4))
