-- Which hours can be written in the syntax of OpenStreetMap without fallback rules.
use Rattle.std.specs.Prelude.{◌≡◌, Bool, true, false, List, [], ◌∷◌, ◌++◌, nat_lt}
use Rattle.std.specs.List.{list_all}
use Rattle.gtd_hours.specs.declared.hours.Kind.{Kind}
use Rattle.gtd_hours.specs.declared.hours.Link.{Link}
use Rattle.gtd_hours.specs.declared.hours.Link.TheVariants as link
use Rattle.gtd_hours.specs.declared.hours.Hours.{Hours}
use Rattle.gtd_hours.specs.declared.hours.Rule.{Rule}
use Rattle.gtd_hours.specs.declared.hours.Selector.{Selector}
use Rattle.gtd_hours.specs.declared.hours.Selector.TheVariants as selector

-- ---- the kinds of selectors

abbrev pub is_years : Selector → Bool
is_years (selector.Years x) = true
is_years x = false

abbrev pub is_month_days : Selector → Bool
is_month_days (selector.Months x) = true
is_month_days (selector.Dates x) = true
is_month_days (selector.Dated x) = true
is_month_days x = false

abbrev pub is_weeks : Selector → Bool
is_weeks (selector.Weeks x) = true
is_weeks x = false

-- a place with no days from it is one of the two before
abbrev pub is_weekdays : Selector → Bool
is_weekdays (selector.Weekdays x) = true
is_weekdays (selector.Nth x) = true
is_weekdays (selector.NthBack x) = true
is_weekdays (selector.Moved x) = nat_lt 0 x.days
is_weekdays x = false

-- ---- rules

-- the selectors of each kind
abbrev pub selectors : List Kind → List (List Selector)
selectors [] = []
selectors (kind ∷ kinds) = kind.selectors.items ∷ selectors kinds

-- a kind, if it has selectors
abbrev pub kind_if : List Selector → List (List Selector)
kind_if [] = []
kind_if (x ∷ xs) = (x ∷ xs) ∷ []

-- a fallback rule
abbrev pub is_fallback : Link → Bool
is_fallback link.Instead = false
is_fallback link.Also = false
is_fallback link.Fallback = true

-- A rule can be written if it is no fallback rule, and its kinds are, in this order, years, month days, weeks and weekdays: each
-- at most once, and none without selectors.
pub record IsWritableRule (rule : Rule) : Type 0 where
  pub no_fallback : is_fallback rule.link ≡ false
  pub years : List Selector
  pub month_days : List Selector
  pub weeks : List Selector
  pub weekdays : List Selector
  pub are_years : list_all is_years years ≡ true
  pub are_month_days : list_all is_month_days month_days ≡ true
  pub are_weeks : list_all is_weeks weeks ≡ true
  pub are_weekdays : list_all is_weekdays weekdays ≡ true
  pub kinds : selectors rule.kinds.items ≡ kind_if years ++ kind_if month_days ++ kind_if weeks ++ kind_if weekdays

abbrev pub AreWritable : List Rule → Type 0
AreWritable [] = Unit {0}
AreWritable (rule ∷ rules) = IsWritableRule rule × AreWritable rules

-- there is a first rule, with none before it
abbrev pub BeginAnew : List Rule → Type 0
BeginAnew [] = ⊥
BeginAnew (rule ∷ rules) = rule.link ≡ link.Instead

-- The hours can be written.
pub record IsWritable (hours : Hours) : Type 0 where
  pub first : BeginAnew hours.rules.items
  pub rules : AreWritable hours.rules.items
