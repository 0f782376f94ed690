-- A rule with days of holidays: a kind of selectors of its own, or more selectors in the kind of weekdays.
use Rattle.std.specs.Prelude.{◌≡◌, Bool, true, false, if◌then◌else◌, List, [], ◌∷◌, ◌++◌, drop, take}
use Rattle.gtd_hours.specs.Writable.{selectors}
use Rattle.gtd_hours.specs.declared.hours.Link.{Link}
use Rattle.gtd_hours.specs.declared.hours.Rule.{Rule}
use Rattle.gtd_hours.specs.declared.hours.Selector.{Selector}
use Rattle.gtd_hours.specs.declared.hours.Selector.TheVariants.{Weekdays, Nth, NthBack, Moved}
use Rattle.gtd_hours_holiday_rules.specs.Rules.{before_holiday}

-- the selector is one of weekdays
abbrev pub is_of_week : Selector → Bool
is_of_week (Weekdays days) = true
is_of_week (Nth place) = true
is_of_week (NthBack place) = true
is_of_week (Moved place) = true
is_of_week x = false

-- A kind of selectors is that of weekdays if its first one is.
abbrev pub names_weekdays : List Selector → Bool
names_weekdays [] = false
names_weekdays (x ∷ xs) = is_of_week x

-- weekdays with days of holidays among them, all where the first holiday stands in the order of both
abbrev pub among : List Bool → List Selector → List Selector → List Selector
among order days kind = take (before_holiday order) kind ++ days ++ drop (before_holiday order) kind

-- The last kind with days of holidays. Those that lead weekdays, and all behind another kind, are a kind of their own, so that
-- both must hold; others stand among the weekdays, so that either must.
abbrev pub last_with : Bool → List Bool → List Selector → List Selector → List (List Selector)
last_with led order days kind =
    if names_weekdays kind then (if led then days ∷ kind ∷ [] else among order days kind ∷ []) else kind ∷ days ∷ []

-- the selectors of each kind with days of holidays
abbrev pub with_days : Bool → List Bool → List Selector → List (List Selector) → List (List Selector)
with_days led order days [] = days ∷ []
with_days led order days (kind ∷ []) = last_with led order days kind
with_days led order days (kind ∷ more ∷ kinds) = kind ∷ with_days led order days (more ∷ kinds)

-- The rule with days of holidays and another link; its times, and whether it is closed, stay.
pub record IsWithDays (by : Link) (led : Bool) (order : List Bool) (days : List Selector) (rule made : Rule) : Type 0 where
  pub link : made.link ≡ by
  pub kinds : selectors made.kinds.items ≡ with_days led order days (selectors rule.kinds.items)
  pub times : made.times ≡ rule.times
  pub modifier : made.modifier ≡ rule.modifier

-- the last kind is that of weekdays
abbrev pub has_weekdays : List (List Selector) → Bool
has_weekdays [] = false
has_weekdays (kind ∷ []) = names_weekdays kind
has_weekdays (kind ∷ more ∷ kinds) = has_weekdays (more ∷ kinds)
