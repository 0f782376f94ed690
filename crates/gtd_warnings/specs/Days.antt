-- Domains that are over on a day, or soon.
use Rattle.std.specs.Prelude.{◌≡◌, ◌⊎◌, ◌≤ℤ◌, ◌+ℤ◌, ℤ, pos}
use Rattle.gtd_core.specs.Limits.{horizons_end}
use Rattle.gtd_core.specs.Trees.{Tree}
use Rattle.gtd_core.specs.Whole.{from_day, to_day}
use Rattle.gtd_core.specs.declared.horizon.Horizon.{Horizon}
use Rattle.gtd_mistakes.specs.declared.rule.Rule.{Rule}
use Rattle.gtd_mistakes.specs.declared.rule.Rule.TheVariants as rule
use Rattle.gtd_warnings.specs.Over.{IsOver, first_of_day}

-- the 400 years from a day on, but none after 2699-12-31
abbrev pub AreDaysFrom : ℤ → Horizon → Type 0
AreDaysFrom day days =
    (from_day days ≡ day) × (to_day days ≤ℤ (day +ℤ pos 146_097)) × (to_day days ≤ℤ horizons_end)
    × ((to_day days ≡ (day +ℤ pos 146_097)) ⊎ (to_day days ≡ horizons_end))

-- The rule holds of an expression on the first of these days: it is over by that day, for ever; or it is not, but is 30 days
-- later.
abbrev pub HoldsOn : Rule → Horizon → Tree → Type 0
HoldsOn rule.Past days tree = IsOver tree (first_of_day (from_day days))
HoldsOn rule.EndsSoon days tree =
    (IsOver tree (first_of_day (from_day days)) → ⊥) × IsOver tree (first_of_day (from_day days +ℤ pos 30))
HoldsOn rule days tree = ⊥
