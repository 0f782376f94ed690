-- The selectors of a class, and how they are written.
use Rattle.std.specs.Prelude.{◌≡◌, ◌++◌, Bool, true, false, List, [], ◌∷◌, if◌then◌else◌}
use Rattle.gtd_hours.specs.declared.hours.Hours.{Hours}
use Rattle.gtd_hours.specs.declared.hours.Kind.{Kind}
use Rattle.gtd_hours.specs.declared.hours.Modifier.TheVariants as modifier
use Rattle.gtd_hours.specs.declared.hours.Rule.{Rule}
use Rattle.gtd_hours.specs.declared.hours.Selector.{Selector}
use Rattle.gtd_hours.specs.declared.hours.Selector.TheVariants as selector
use Rattle.gtd_hours_writing.specs.declared.classes.Class.{Class}
use Rattle.gtd_hours_writing.specs.declared.classes.Class.TheVariants as class

abbrev pub class_of : Selector → Class
class_of (selector.Months x) = class.MonthDays
class_of (selector.Dates x) = class.MonthDays
class_of (selector.Dated x) = class.MonthDays
class_of (selector.Moving x) = class.MonthDays
class_of (selector.Weeks x) = class.Weeks
class_of (selector.Weekdays x) = class.Weekdays
class_of (selector.Nth x) = class.Weekdays
class_of (selector.NthBack x) = class.Weekdays
class_of (selector.Moved x) = class.Weekdays
class_of x = class.Years

abbrev pub is_same : Class → Class → Bool
is_same class.Years class.Years = true
is_same class.MonthDays class.MonthDays = true
is_same class.Weeks class.Weeks = true
is_same class.Weekdays class.Weekdays = true
is_same a b = false

-- The selectors, all of one kind, are of the class of the first.
abbrev pub are_of : Class → List Selector → Bool
are_of c [] = false
are_of c (x ∷ xs) = is_same c (class_of x)

abbrev pub selectors_if : Class → List Selector → List Selector
selectors_if c xs = if are_of c xs then xs else []

-- those of a class among the kinds of a rule
abbrev pub selectors_of : Class → List Kind → List Selector
selectors_of c [] = []
selectors_of c (kind ∷ kinds) = selectors_if c kind.selectors.items ++ selectors_of c kinds

-- ---- as the code has them written

-- Hours of one open rule with these kinds.
pub record HasKinds (kinds : List Kind) (hours : Hours) : Type 0 where
  pub rule : Rule
  pub one : hours.rules.items ≡ rule ∷ []
  pub has : rule.kinds.items ≡ kinds
  pub times : rule.times.items ≡ []
  pub opens : rule.modifier ≡ modifier.Open
