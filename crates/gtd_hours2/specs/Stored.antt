-- How rules are kept: the parts of all of them in one list, and how many of these each rule has.
use Rattle.std.specs.Prelude.{◌≡◌, ℕ, ◌+◌, List, [], ◌∷◌, take, drop, length}
use Rattle.gtd_hours2.specs.declared.rules.RuleEntry.{RuleEntry}
use Rattle.gtd_hours2.specs.declared.rules.RuleRef.{RuleRef}
use Rattle.gtd_hours2.specs.declared.values.RulePart.{RulePart}
use Rattle.gtd_hours2.specs.Rules.{Rule}

abbrev pub rules_of : List RulePart → List RuleEntry → List Rule
rules_of parts [] = []
rules_of parts (e ∷ es) = record { head = e.head; parts = take e.count parts } ∷ rules_of (drop e.count parts) es

abbrev pub counted : List RuleEntry → ℕ
counted [] = 0
counted (e ∷ es) = e.count + counted es

-- each part belongs to a rule
abbrev pub AreCounted : List RulePart → List RuleEntry → Type 0
AreCounted parts es = counted es ≡ length parts

-- a rule by itself
abbrev pub rule_of : RuleRef → Rule
rule_of r = record { head = r.head; parts = r.parts.now }

-- it is the first of some rules
abbrev pub BeginsWith : Rule → List Rule → Type 0
BeginsWith rule [] = ⊥
BeginsWith rule (x ∷ xs) = x ≡ rule
