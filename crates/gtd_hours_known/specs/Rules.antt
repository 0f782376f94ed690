-- The rules of hours that the rules of a text stand for.
use Rattle.std.specs.Prelude.{◌≡◌, ◌⊎◌, ℕ, Bool, true, false, List, [], ◌∷◌, ◌++◌, Option, Some, None}
use Rattle.std.specs.Prelude.{get_or, is_some, ℤ}
use Rattle.gtd_hours.specs.declared.hours.Hours.{Hours}
use Rattle.gtd_hours.specs.declared.hours.Link.{Link}
use Rattle.gtd_hours.specs.declared.hours.Rule.{Rule}
use Rattle.gtd_hours.specs.declared.hours.Selector.{Selector}
use Rattle.gtd_hours_grammar.specs.Faults.{IsFirstFault}
use Rattle.gtd_hours_grammar.specs.declared.fault.HoursFault.{HoursFault}
use Rattle.gtd_hours_days.specs.Listed.{CoversAll, IsUncovered}
use Rattle.gtd_hours_days.specs.declared.listed.Listed.{Listed}
use Rattle.gtd_hours_days.specs.declared.selection.ListedFault.{ListedFault}
use Rattle.gtd_hours_days.specs.declared.selection.ListedFault.TheVariants as listed_fault
use Rattle.gtd_hours_holidays.specs.declared.holidays.Holidays.{Holidays}
use Rattle.gtd_hours_holidays.specs.declared.known_years.KnownYears.{KnownYears}
use Rattle.gtd_hours_holiday_rules.specs.declared.rules.HolidayRule.{HolidayRule}
use Rattle.gtd_hours_loose.specs.Reading.{IsStrict}
use Rattle.gtd_hours_known.specs.Easter.{IsOwnHours}
use Rattle.gtd_hours_known.specs.HolidayDays.{AreDaysOf}
use Rattle.gtd_hours_known.specs.Joining.{IsWithDays}
use Rattle.gtd_hours_known.specs.declared.known.Known.{Known}
use Rattle.gtd_hours_known.specs.declared.rules.RulesStop.{RulesStop}
use Rattle.gtd_hours_known.specs.declared.rules.RulesStop.TheVariants as stop

-- ---- the first of what needs years

-- the first of these places
abbrev pub first_place : List ℕ → ℕ
first_place [] = 0
first_place (place ∷ places) = place

-- where the first of some holidays or days of Easter at these places stands, or else another one
abbrev pub first_or : {A : Type 0} → List A → List ℕ → Option ℕ → Option ℕ
first_or [] places later = later
first_or (x ∷ xs) places later = Some (first_place places)

-- a place that is given, or else another one
abbrev pub place_or : Option ℕ → Option ℕ → Option ℕ
place_or None later = later
place_or (Some place) later = Some place

-- Where the first rule that needs years has its first years without a last one, or else its first Easter, or its first holiday.
abbrev pub first_holiday : List HolidayRule → Option ℕ
first_holiday [] = None
first_holiday (rule ∷ rules) =
    place_or rule.every_place
    (first_or rule.easter.items rule.easter_places.items (first_or rule.holidays.items rule.places.items (first_holiday rules)))

-- ---- the own texts of rules

-- each rule's own text is hours
abbrev pub AreAllStrict : List HolidayRule → Type 0
AreAllStrict [] = Unit {0}
AreAllStrict (rule ∷ rules) = IsStrict rule.text.items × AreAllStrict rules

-- the first fault of the first own text that is not
abbrev pub IsRuleFault : List HolidayRule → HoursFault → Type 0
IsRuleFault [] bad = ⊥
IsRuleFault (rule ∷ rules) bad = IsFirstFault rule.text.items bad ⊎ (IsStrict rule.text.items × IsRuleFault rules bad)

-- ---- the table and the years

pub record IsGiven (known : Known) (table : Holidays) (years : KnownYears) : Type 0 where
  pub has_table : known.holidays ≡ Some table
  pub has_years : known.years ≡ Some years

-- The days of holidays: those that the table has for them in the years. Without holidays there are none.
abbrev pub AreGivenDays : Known → List Listed → List Selector → Type 0
AreGivenDays known [] days = days ≡ []
AreGivenDays known (h ∷ holidays) days =
    (table : Holidays) × (years : KnownYears) × IsGiven known table years × AreDaysOf table years (h ∷ holidays) days

-- The table says all that the holidays need in the years.
abbrev pub AreAllSaid : Known → List Listed → Type 0
AreAllSaid known [] = Unit {0}
AreAllSaid known (h ∷ holidays) =
    (table : Holidays) × (years : KnownYears) × IsGiven known table years
    × CoversAll table.rows.items years (h ∷ holidays)

-- ---- rules with holidays

-- A rule with another link and, if there are holidays, with their days.
abbrev pub WithAny : List Listed → Bool → List Bool → Link → List Selector → Rule → Rule → Type 0
WithAny [] led order by days plain made = made ≡ record plain { link = by }
WithAny (x ∷ xs) led order by days plain made = IsWithDays by led order days plain made

-- It has the link of the text's rule, and its holidays.
abbrev pub HasHolidays : HolidayRule → List Selector → Rule → Rule → Type 0
HasHolidays from days plain made = WithAny from.holidays.items from.is_led from.order.items from.link days plain made

-- each of the rules, in their order, has them
abbrev pub AreWithHolidays : HolidayRule → List Selector → List Rule → List Rule → Type 0
AreWithHolidays from days [] [] = Unit {0}
AreWithHolidays from days (p ∷ plain) (m ∷ made) = HasHolidays from days p m × AreWithHolidays from days plain made
AreWithHolidays from days plain made = ⊥

-- none of them if the rule is unknown: it says nothing
abbrev pub AreSpoken : Bool → HolidayRule → List Selector → List Rule → List Rule → Type 0
AreSpoken true from days plain made = made ≡ []
AreSpoken false from days plain made = AreWithHolidays from days plain made

-- What a rule of the text stands for, if it says something: the rule of its own text (there is one) and its other month days,
-- with its link and, on the days that the table has for them in the years, its holidays.
pub record IsHolidayRule (known : Known) (from : HolidayRule) (made : List Rule) : Type 0 where
  pub plain : Hours
  pub days : List Selector
  pub own : IsOwnHours known from plain
  pub listed : AreGivenDays known from.holidays.items days
  pub are : AreSpoken (is_some from.unknown) from days plain.rules.items made

-- what the rules stand for, one after another
abbrev pub AreHolidayRules : Known → List HolidayRule → List Rule → Type 0
AreHolidayRules known [] made = made ≡ []
AreHolidayRules known (from ∷ more) made =
    (own others : List Rule) × IsHolidayRule known from own × AreHolidayRules known more others × (made ≡ own ++ others)

-- ---- what the table does not say

-- the first of a rule's holidays of which the table does not say all in the years, where it stands, and the first day for it
abbrev pub IsUncoveredIn : Holidays → KnownYears → HolidayRule → ℕ → ℤ → Type 0
IsUncoveredIn table years from place day =
    (k : ℕ) × IsUncovered table.rows.items years from.holidays.items k day × (place ≡ get_or from.places.items k 0)

abbrev pub IsUncoveredBy : Known → HolidayRule → ℕ → ℤ → Type 0
IsUncoveredBy known from place day =
    (table : Holidays) × (years : KnownYears) × IsGiven known table years × IsUncoveredIn table years from place day

-- the first of the holidays of some rules
abbrev pub IsHolidayUncovered : Known → List HolidayRule → ℕ → ℤ → Type 0
IsHolidayUncovered known [] place day = ⊥
IsHolidayUncovered known (from ∷ more) place day =
    IsUncoveredBy known from place day
    ⊎ (AreAllSaid known from.holidays.items × IsHolidayUncovered known more place day)

-- ---- as the code computes it

-- a fault of holidays, as it is told at one of these places
abbrev pub IsStopAt : ListedFault → List ℕ → RulesStop → Type 0
IsStopAt (listed_fault.Uncovered found) places why = why ≡ stop.Uncovered (get_or places found.place 0) found.day
IsStopAt listed_fault.NoMemory places why = why ≡ stop.NoMemory

-- why the holidays of a rule have no days; why the rule has no rule of hours; and why rules have none
abbrev pub IsDaysStop : Holidays → KnownYears → HolidayRule → RulesStop → Type 0
IsDaysStop table years from (stop.Uncovered place day) = IsUncoveredIn table years from place day
IsDaysStop table years from stop.NoMemory = Unit {0}

abbrev pub IsRuleStop : Known → HolidayRule → RulesStop → Type 0
IsRuleStop known from (stop.Uncovered place day) = IsUncoveredBy known from place day
IsRuleStop known from stop.NoMemory = Unit {0}

abbrev pub IsRulesStop : Known → List HolidayRule → RulesStop → Type 0
IsRulesStop known rules (stop.Uncovered place day) = IsHolidayUncovered known rules place day
IsRulesStop known rules stop.NoMemory = Unit {0}
