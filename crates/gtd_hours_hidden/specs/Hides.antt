-- Which later rules hide hours of an earlier one. It is a question about texts and not about all days: selectors are compared as
-- they are written, and minutes are those of a day from its 00:00 to 24:00.
use Rattle.std.specs.Prelude.{◌≡◌, ℕ, ◌<◌, ◌==◌, ◌&&◌, ◌||◌, Bool, true, false, not, List, [], ◌∷◌, if◌then◌else◌, nat_lt, nat_le}
use Rattle.std.specs.Prelude.{Some, slice_get}
use Rattle.std.specs.List.{list_all, list_any}
use Rattle.gtd_hours.specs.Ranges.{end_of}
use Rattle.gtd_hours.specs.Writable.{is_fallback}
use Rattle.gtd_hours.specs.Written.{is_some_kind, is_some_time}
use Rattle.gtd_hours.specs.declared.hours.Dated.{Dated as DatedRange}
use Rattle.gtd_hours.specs.declared.hours.Dates.{Dates as DateRange}
use Rattle.gtd_hours.specs.declared.hours.Kind.{Kind}
use Rattle.gtd_hours.specs.declared.hours.Link.{Link}
use Rattle.gtd_hours.specs.declared.hours.Link.TheVariants.{Instead, Also, Fallback}
use Rattle.gtd_hours.specs.declared.hours.Modifier.{Modifier}
use Rattle.gtd_hours.specs.declared.hours.Modifier.TheVariants.{Open, Closed}
use Rattle.gtd_hours.specs.declared.hours.MonthDay.{MonthDay}
use Rattle.gtd_hours.specs.declared.hours.Months.{Months as MonthRange}
use Rattle.gtd_hours.specs.declared.hours.Rule.{Rule}
use Rattle.gtd_hours.specs.declared.hours.Selector.{Selector}
use Rattle.gtd_hours.specs.declared.hours.Selector.TheVariants.{Years, Months, Dates, Dated, Weeks, Weekdays, Nth, NthBack}
use Rattle.gtd_hours.specs.declared.hours.Selector.TheVariants.{Yearly}
use Rattle.gtd_hours.specs.declared.hours.TimeRange.{TimeRange}
use Rattle.gtd_hours.specs.declared.hours.WeekdayPlace.{WeekdayPlace}
use Rattle.gtd_hours.specs.declared.hours.Weekdays.{Weekdays as WeekdayRange}
use Rattle.gtd_hours.specs.declared.hours.Weeks.{Weeks as WeekRange}
use Rattle.gtd_hours.specs.declared.hours.YearDate.{YearDate}
use Rattle.gtd_hours.specs.declared.hours.YearlyDays.{YearlyDays}
use Rattle.gtd_hours.specs.declared.hours.Years.{Years as YearRange}

-- ---- the same selectors

abbrev pub same_years : YearRange → YearRange → Bool
same_years x y = (x.first == y.first) && (x.last == y.last) && (x.step == y.step)

abbrev pub same_months : MonthRange → MonthRange → Bool
same_months x y = (x.first == y.first) && (x.last == y.last)

abbrev pub same_month_day : MonthDay → MonthDay → Bool
same_month_day x y = (x.month == y.month) && (x.day == y.day)

abbrev pub same_dates : DateRange → DateRange → Bool
same_dates x y = same_month_day x.first y.first && same_month_day x.last y.last

abbrev pub same_year_date : YearDate → YearDate → Bool
same_year_date x y = (x.year == y.year) && (x.month == y.month) && (x.day == y.day)

abbrev pub same_dated : DatedRange → DatedRange → Bool
same_dated x y = same_year_date x.first y.first && same_year_date x.last y.last

abbrev pub same_weeks : WeekRange → WeekRange → Bool
same_weeks x y = (x.first == y.first) && (x.last == y.last) && (x.step == y.step)

abbrev pub same_weekdays_range : WeekdayRange → WeekdayRange → Bool
same_weekdays_range x y = (x.first == y.first) && (x.last == y.last)

abbrev pub same_place : WeekdayPlace → WeekdayPlace → Bool
same_place x y = (x.weekday == y.weekday) && (x.number == y.number)

abbrev pub same_yearly : YearlyDays → YearlyDays → Bool
same_yearly x y =
    (x.first == y.first) && (x.last == y.last) && (x.month == y.month) && (x.day == y.day) && (x.days == y.days)

-- The same selector. Days that move from year to year are not compared: they are like no other.
abbrev pub same_selector : Selector → Selector → Bool
same_selector (Years x) (Years y) = same_years x y
same_selector (Months x) (Months y) = same_months x y
same_selector (Dates x) (Dates y) = same_dates x y
same_selector (Dated x) (Dated y) = same_dated x y
same_selector (Weeks x) (Weeks y) = same_weeks x y
same_selector (Weekdays x) (Weekdays y) = same_weekdays_range x y
same_selector (Nth x) (Nth y) = same_place x y
same_selector (NthBack x) (NthBack y) = same_place x y
same_selector (Yearly x) (Yearly y) = same_yearly x y
same_selector x y = false

-- each of these selectors is one of those
abbrev pub are_among : List Selector → List Selector → Bool
are_among xs ys = list_all (λ x. list_any (same_selector x) ys) xs

-- ---- the same weekdays

-- weekdays without a place in the month
abbrev pub is_plain : Selector → Bool
is_plain (Weekdays x) = true
is_plain x = false

-- a number from the first to the last or, if the last is before the first, from the first on or up to the last
abbrev pub is_round : ℕ → ℕ → ℕ → Bool
is_round first last k =
    if nat_lt last first then nat_le first k || nat_le k last
    else nat_le first k && nat_le k last

abbrev pub has_weekday : ℕ → Selector → Bool
has_weekday k (Weekdays days) = is_round days.first days.last k
has_weekday k x = false

abbrev pub same_answer : Bool → Bool → Bool
same_answer true y = y
same_answer false y = not y

-- the weekday is in both or in neither
abbrev pub agree_on : ℕ → List Selector → List Selector → Bool
agree_on k xs ys = same_answer (list_any (has_weekday k) xs) (list_any (has_weekday k) ys)

-- from Sunday, which is 1, to Saturday
abbrev pub same_weekdays : List Selector → List Selector → Bool
same_weekdays xs ys =
    agree_on 1 xs ys && agree_on 2 xs ys && agree_on 3 xs ys && agree_on 4 xs ys && agree_on 5 xs ys && agree_on 6 xs ys
    && agree_on 7 xs ys

-- ---- the same days

-- of one kind the same selectors, in any order; plain weekdays may be written in another way
abbrev pub same_kind : List Selector → List Selector → Bool
same_kind xs ys =
    if list_all is_plain xs && list_all is_plain ys then same_weekdays xs ys
    else are_among xs ys && are_among ys xs

-- and so of each kind
abbrev pub same_kinds : List Kind → List Kind → Bool
same_kinds [] [] = true
same_kinds [] (y ∷ ys) = false
same_kinds (x ∷ xs) [] = false
same_kinds (x ∷ xs) (y ∷ ys) = same_kind x.selectors.items y.selectors.items && same_kinds xs ys

-- ---- rules

abbrev pub is_open : Modifier → Bool
is_open Open = true
is_open Closed = false

abbrev pub is_instead : Link → Bool
is_instead Instead = true
is_instead Also = false
is_instead Fallback = false

-- The rule is open and has times. So it is not `24/7`, which has none.
abbrev pub has_hours : Rule → Bool
has_hours rule = is_open rule.modifier && is_some_time rule.times.items

-- It has hours, and does not come after `||`: no rule hides hours of one that speaks where nothing is said.
abbrev pub can_be_hidden : Rule → Bool
can_be_hidden rule = has_hours rule && not (is_fallback rule.link)

-- The later rule has no selectors of days or the same as the earlier one.
abbrev pub has_days : Rule → Rule → Bool
has_days later earlier = not (is_some_kind later.kinds.items) || same_kinds later.kinds.items earlier.kinds.items

-- It takes the days of the earlier one: it is open, after `;`, and has no selectors of days or the same.
abbrev pub takes_days : Rule → Rule → Bool
takes_days later earlier = is_instead later.link && is_open later.modifier && has_days later earlier

-- the minute of the day is in one of the ranges
abbrev pub has_minute : List TimeRange → ℕ → Bool
has_minute times m = list_any (λ (t : TimeRange). nat_le t.begin m && nat_lt m (end_of t.begin t.last)) times

-- the minute is in a range of the earlier rule and in none of the later one
abbrev pub is_missed : List TimeRange → List TimeRange → ℕ → Bool
is_missed later earlier m = has_minute earlier m && not (has_minute later m)

-- and so is some minute before 24:00
abbrev pub MissesMinute : List TimeRange → List TimeRange → Type 0
MissesMinute later earlier = (m : ℕ) × (m < 1440) × (is_missed later earlier m ≡ true)

-- The later rule has hours, and not at some minute of the earlier one.
abbrev pub HasOtherHours : Rule → Rule → Type 0
HasOtherHours later earlier = (has_hours later ≡ true) × MissesMinute later.times.items earlier.times.items

-- Rule k hides hours of rule j, which can be hidden: the later one takes the days of the earlier one, and has other hours, and no
-- rule between them takes these days before. Rules are counted from 0.
pub record HidesOf (rules : List Rule) (j k : ℕ) : Type 0 where
  pub earlier : Rule
  pub later : Rule
  pub is_earlier : slice_get rules j ≡ Some earlier
  pub is_later : slice_get rules k ≡ Some later
  pub order : j < k
  pub hours : can_be_hidden earlier ≡ true
  pub days : takes_days later earlier ≡ true
  pub others : HasOtherHours later earlier
  pub first : (i : ℕ) (between : Rule) → j < i → i < k → slice_get rules i ≡ Some between → takes_days between earlier ≡ false

-- Rule k hides hours of an earlier one.
abbrev pub Hides : List Rule → ℕ → Type 0
Hides rules k = (j : ℕ) × HidesOf rules j k
