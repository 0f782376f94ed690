-- The rules that a refusal names are all that there are, in their order.
use Rattle.std.proofs.Common.{◌≡◌, ◌++◌, ℕ, List, [], ◌∷◌, map, refl}
use Rattle.std.specs.Prelude.{codes}
use Rattle.gtd_mistakes.specs.RuleNames.{name_of}
use Rattle.gtd_mistakes.specs.declared.rule.TheConstants.{RULES}
use Rattle.gtdesk_tool.specs.Lines.{rule_reason}

abbrev listed : List (List ℕ) → List ℕ
listed [] = []
listed (name ∷ []) = name
listed (name ∷ other ∷ names) = name ++ (codes ", " ++ listed (other ∷ names))

all_rules : rule_reason ≡ codes "not names of rules with commas between them; the rules are " ++ listed (map name_of RULES)
all_rules = refl
