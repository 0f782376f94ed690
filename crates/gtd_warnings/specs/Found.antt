-- A rule that was looked for.
use Rattle.std.specs.Prelude.{MatchOption, Option}
use Rattle.gtd_mistakes.specs.declared.rule.Rule.{Rule}

-- a rule that holds, or none if none does
abbrev pub IsFound : (Rule → Type 0) → Option Rule → Type 0
IsFound Holds found = MatchOption found ((rule : Rule) → Holds rule → ⊥) Holds
