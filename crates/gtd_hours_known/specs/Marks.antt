-- Of what is warned in a text that is read.
use Rattle.std.specs.Prelude.{◌≡◌, ℕ, List, [], ◌∷◌, ◌++◌, Option, Some, None}
use Rattle.gtd_hours_holiday_rules.specs.declared.rules.HolidayRule.{HolidayRule}
use Rattle.gtd_hours_known.specs.Rules.{first_holiday}
use Rattle.gtd_hours_known.specs.declared.known.KnownHours.{KnownHours}

abbrev pub one_or_none : Option ℕ → List ℕ
one_or_none None = []
one_or_none (Some place) = place ∷ []

-- where rules have remarks
abbrev pub remarks_of : List HolidayRule → List ℕ
remarks_of [] = []
remarks_of (rule ∷ rules) = one_or_none rule.remark ++ remarks_of rules

-- and where a word or a comment makes them unknown
abbrev pub unknowns_of : List HolidayRule → List ℕ
unknowns_of [] = []
unknowns_of (rule ∷ rules) = one_or_none rule.unknown ++ unknowns_of rules

-- The hours of a text with these rules have their first holiday, their remarks and their unknown rules.
pub record HasMarks (rules : List HolidayRule) (read : KnownHours) : Type 0 where
  pub first : read.first_holiday ≡ first_holiday rules
  pub remarks : read.remarks.items ≡ remarks_of rules
  pub unknowns : read.unknowns.items ≡ unknowns_of rules
