-- Plain hours with more month days, such as ranges that move from year to year.
use Rattle.std.specs.Prelude.{◌≡◌, ◌||◌, ◌⊎◌, ℕ, ℤ, Bool, true, false, if◌then◌else◌, not, List, [], ◌∷◌, ◌++◌}
use Rattle.std.specs.Prelude.{Option, Some, None, drop, take}
use Rattle.gtd_calendar.specs.declared.day.DayFields.{DayFields}
use Rattle.gtd_hours.specs.Opening.{SomeHolds}
use Rattle.gtd_hours.specs.Writable.{is_years, selectors}
use Rattle.gtd_hours.specs.declared.hours.Hours.{Hours}
use Rattle.gtd_hours.specs.declared.hours.Rule.{Rule}
use Rattle.gtd_hours.specs.declared.hours.Selector.{Selector}
use Rattle.gtd_hours.specs.declared.hours.Selector.TheVariants.{Dated, Dates, Months, Moving}
use Rattle.gtd_hours_text.specs.Standing.{StandsFor}
use Rattle.gtd_hours_dated.specs.declared.more.MonthItem.{MonthItem}
use Rattle.gtd_hours_dated.specs.declared.more.MonthItem.TheVariants as item
use Rattle.gtd_hours_dated.specs.declared.more.MoreDays.{MoreDays}

-- the selector is one of month days
abbrev pub is_month_days : Selector → Bool
is_month_days (Months months) = true
is_month_days (Dates dates) = true
is_month_days (Dated dates) = true
is_month_days (Moving range) = true
is_month_days x = false

-- A kind of selectors is that of its first one.
abbrev pub names_years : List Selector → Bool
names_years [] = false
names_years (x ∷ xs) = is_years x

abbrev pub names_month_days : List Selector → Bool
names_month_days [] = false
names_month_days (x ∷ xs) = is_month_days x

-- What more month days are, apart from how they are kept in memory.
pub record More : Type 0 where
  pub order : List MonthItem
  pub dates : List Selector
  pub easter : List Selector

abbrev pub more_of : MoreDays → More
more_of more = record { order = more.order.items; dates = more.dates.items; easter = more.easter.items }

-- Month days in this order: one after another of a text's own, and of ranges that move; all days of Easter where the first of
-- these stand. What the order has no place for comes last.
abbrev pub in_order : List MonthItem → List Selector → List Selector → List Selector → List Selector
in_order [] own dates easter = own ++ dates ++ easter
in_order (item.Own ∷ order) own dates easter = take 1 own ++ in_order order (drop 1 own) dates easter
in_order (item.Moving ∷ order) own dates easter = take 1 dates ++ in_order order own (drop 1 dates) easter
in_order (item.Easter ∷ order) own dates easter = easter ++ in_order order own dates []

-- a text's own month days, which may be none, and more
abbrev pub all_days : More → List Selector → List Selector
all_days more own = in_order more.order own more.dates more.easter

-- The selectors of each kind with more month days, behind the years: among the month days, so that one of both must hold; or,
-- where there are none, a kind of their own.
abbrev pub with_dates : More → List (List Selector) → List (List Selector)
with_dates more [] = all_days more [] ∷ []
with_dates more (kind ∷ kinds) =
    if names_years kind then kind ∷ with_dates more kinds
    else if names_month_days kind then all_days more kind ∷ kinds
    else all_days more [] ∷ kind ∷ kinds

-- there are month days, behind the years
abbrev pub has_month_days : List (List Selector) → Bool
has_month_days [] = false
has_month_days (kind ∷ kinds) = if names_years kind then has_month_days kinds else names_month_days kind

-- the rule with more month days; all else stays
pub record IsDatedRule (more : More) (plain made : Rule) : Type 0 where
  pub kinds : selectors made.kinds.items ≡ with_dates more (selectors plain.kinds.items)
  pub times : made.times ≡ plain.times
  pub modifier : made.modifier ≡ plain.modifier
  pub link : made.link ≡ plain.link

-- each of the rules, in their order, with them
abbrev pub AreDatedRules : More → List Rule → List Rule → Type 0
AreDatedRules more [] [] = Unit {0}
AreDatedRules more (p ∷ plain) (m ∷ made) = IsDatedRule more p m × AreDatedRules more plain made
AreDatedRules more plain made = ⊥

-- The text stands for these hours, where each of its rules has more month days, if some are given: these may be no days at all.
abbrev pub IsDatedHours : List ℕ → Option More → Hours → Type 0
IsDatedHours text None hours = StandsFor text hours
IsDatedHours text (Some more) hours =
    (plain : Hours) × StandsFor text plain × AreDatedRules more plain.rules.items hours.rules.items

-- one of the month days that are more holds on a day
abbrev pub SomeMore : More → ℤ → DayFields → Type 0
SomeMore more n f = SomeHolds more.dates n f ⊎ SomeHolds more.easter n f

-- ---- as the code computes it

-- the month days have their place behind a kind, and whether they had it before
abbrev pub is_placed : Bool → List Selector → Bool
is_placed placed kind = placed || not (names_years kind)

-- a kind, with which the month days are put if they have their place there
abbrev pub kind_with : Bool → More → List Selector → List (List Selector)
kind_with placed more kind =
    if placed || names_years kind then kind ∷ []
    else if names_month_days kind then all_days more kind ∷ []
    else all_days more [] ∷ kind ∷ []

-- the kinds that are left, and the month days if they have had no place
abbrev pub kinds_left : Bool → More → List (List Selector) → List (List Selector)
kinds_left true more kinds = kinds
kinds_left false more kinds = with_dates more kinds

-- what stands at a place of a list of month days, where these are left, and which of them are left behind it
abbrev pub put_item : MonthItem → List Selector → List Selector → List Selector → List Selector
put_item item.Own own dates easter = take 1 own
put_item item.Moving own dates easter = take 1 dates
put_item item.Easter own dates easter = easter

abbrev pub own_left : MonthItem → List Selector → List Selector
own_left item.Own own = drop 1 own
own_left i own = own

abbrev pub dates_left : MonthItem → List Selector → List Selector
dates_left item.Moving dates = drop 1 dates
dates_left i dates = dates

abbrev pub easter_left : MonthItem → List Selector → List Selector
easter_left item.Easter easter = []
easter_left i easter = easter
