-- What rules are: heads with their parts, the kinds of parts, and what a rule says.
use Rattle.std.specs.Prelude.{ℕ, ◌==◌, ◌||◌, Bool, true, false, List, [], ◌∷◌, Option, Some, None, if◌then◌else◌, is_some}
use Rattle.gtd_hours2.specs.declared.values.PartKind.{PartKind}
use Rattle.gtd_hours2.specs.declared.values.PartKind.TheVariants as kind
use Rattle.gtd_hours2.specs.declared.values.RuleHead.{RuleHead}
use Rattle.gtd_hours2.specs.declared.values.RulePart.{RulePart}
use Rattle.gtd_hours2.specs.declared.values.RulePart.TheVariants as part
use Rattle.gtd_hours2.specs.declared.values.RuleWord.{RuleWord}
use Rattle.gtd_hours2.specs.declared.values.RuleWord.TheVariants as word

pub record Rule : Type 0 where
  pub head : RuleHead
  pub parts : List RulePart

-- holidays that lead weekdays are a kind of their own
abbrev pub kind_of : Bool → RulePart → PartKind
kind_of leads (part.Years first last step) = kind.Years
kind_of leads (part.Months first last) = kind.MonthDays
kind_of leads (part.Days first last) = kind.MonthDays
kind_of leads (part.Dated year first final last) = kind.MonthDays
kind_of leads (part.Weeks first last step) = kind.Weeks
kind_of leads (part.Holidays holiday offset) = if leads then kind.LeadingHolidays else kind.Days
kind_of leads (part.Weekdays first last) = kind.Days
kind_of leads (part.NthWeekday weekday number is_back offset) = kind.Days
kind_of leads (part.Time first last tail) = kind.Times

-- kinds are compared by their order
abbrev pub code : PartKind → ℕ
code kind.Years = 0
code kind.MonthDays = 1
code kind.Weeks = 2
code kind.LeadingHolidays = 3
code kind.Days = 4
code kind.Times = 5

abbrev pub is_of : Bool → PartKind → RulePart → Bool
is_of leads k x = code (kind_of leads x) == code k

abbrev pub has_kind : Bool → PartKind → List RulePart → Bool
has_kind leads k [] = false
has_kind leads k (x ∷ xs) = if is_of leads k x then true else has_kind leads k xs

abbrev pub of_kind : Bool → PartKind → List RulePart → List RulePart
of_kind leads k [] = []
of_kind leads k (x ∷ xs) = if is_of leads k x then x ∷ of_kind leads k xs else of_kind leads k xs

abbrev pub has : PartKind → Rule → Bool
has k rule = has_kind rule.head.leads k rule.parts

abbrev pub has_times : Rule → Bool
has_times rule = has kind.Times rule

-- it has selectors that are no years
abbrev pub has_days : Rule → Bool
has_days rule = has kind.MonthDays rule || has kind.Weeks rule || has kind.LeadingHolidays rule || has kind.Days rule

abbrev pub is_some_part : List RulePart → Bool
is_some_part [] = false
is_some_part (x ∷ xs) = true

-- A rule without a word that has a comment is open if it has times or is `24/7`, and else unknown.
abbrev pub says_alone : Bool → Rule → RuleWord
says_alone true rule = if has_times rule then word.Open else if rule.head.is_always then word.Open else word.Unknown
says_alone false rule = word.Open

abbrev pub says_by : Option RuleWord → Rule → RuleWord
says_by (Some w) rule = w
says_by None rule = says_alone (is_some rule.head.comment) rule

abbrev pub says : Rule → RuleWord
says rule = says_by rule.head.word rule

abbrev pub is_holidays : RulePart → Bool
is_holidays (part.Holidays which offset) = true
is_holidays x = false

abbrev pub gives_holidays : List RulePart → Bool
gives_holidays [] = false
gives_holidays (x ∷ xs) = is_holidays x || gives_holidays xs

-- one of the rules has holidays
abbrev pub has_holidays : List Rule → Bool
has_holidays [] = false
has_holidays (rule ∷ rules) = gives_holidays rule.parts || has_holidays rules
