use Rattle.std.proofs.Common.{◌≡◌, ◌↔◌, length, ℤ}
use Rattle.gtd_hours.specs.Cost.{cost_after}
use Rattle.gtd_hours.specs.Opening.{IsOpenAfter}
use Rattle.gtd_hours_leaves.specs.Leaves.{InMaybe, maybe_leaves}
use Rattle.gtd_hours_domain.specs.Translation.{up_to_fallback}
use Rattle.gtd_hours_domain.proofs.translate.after_rules.Given as goal

-- what the rules that are left make of what is said so far
abbrev pub invariant-loop-rule : goal.invariant-loop-rule
invariant-loop-rule l =
    ((s : ℤ) → IsOpenAfter l.rest (InMaybe l.said.opened s) (InMaybe l.said.closed s) s ↔ IsOpenAfter l.rules ⊥ ⊥ s)
    × (cost_after l.rest (maybe_leaves l.said.opened) (maybe_leaves l.said.closed) ≡ cost_after l.rules 0 0)
    × (l.left ≡ up_to_fallback l.rest)

abbrev pub decreases-loop-rule : goal.decreases-loop-rule
decreases-loop-rule l = length l.rest
