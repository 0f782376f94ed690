-- The rules whose name was compared.
use Rattle.std.proofs.Common.{◌≢◌, ℕ, List, [], ◌∷◌, ◌++◌}
use Rattle.gtd_mistakes.specs.RuleNames.{name_of}
use Rattle.gtd_mistakes.specs.declared.rule.Rule.{Rule}

-- none of these rules has the name
abbrev pub NoneHas : List ℕ → List Rule → Type 0
NoneHas name [] = Unit {0}
NoneHas name (rule ∷ rules) = (name ≢ name_of rule) × NoneHas name rules

pub one_more : (name : List ℕ) (rules : List Rule) (rule : Rule) → NoneHas name rules → name ≢ name_of rule
    → NoneHas name (rules ++ rule ∷ [])
one_more name [] rule none is = (is, tt)
one_more name (r ∷ rules) rule none is = (none.0, one_more name rules rule none.1 is)
