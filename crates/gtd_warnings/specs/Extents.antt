-- Domains that never or always hold.
use Rattle.std.specs.Prelude.{ℤ}
use Rattle.gtd_core.specs.Trees.{Tree}
use Rattle.gtd_eval.specs.Extent.{first_second}
use Rattle.gtd_eval.specs.Membership.{InTree, SomeGivesYear}
use Rattle.gtd_mistakes.specs.declared.rule.Rule.{Rule}
use Rattle.gtd_mistakes.specs.declared.rule.Rule.TheVariants as rule
use Rattle.gtd_warnings.specs.Over.{IsOver}

-- The rule holds of an expression: it is over by 1901-01-01, for ever; or no start gives a year, and it contains each second.
abbrev pub HoldsThroughout : Tree → Rule → Type 0
HoldsThroughout tree rule.NeverHolds = IsOver tree first_second
HoldsThroughout tree rule.AlwaysHolds = (SomeGivesYear tree → ⊥) × ((t : ℤ) → InTree tree t)
HoldsThroughout tree rule = ⊥
