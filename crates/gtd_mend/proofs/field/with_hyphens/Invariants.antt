use Rattle.std.proofs.Common.{◌≡◌, ◌++◌, ◌-◌, ◌≤◌, drop, length}
use Rattle.gtd_mend.specs.Fields.{with_hyphens}
use Rattle.gtd_mend.proofs.field.with_hyphens.Given as goal

-- the text so far, and what is still to come
abbrev pub invariant-loop-at : goal.invariant-loop-at
invariant-loop-at l =
    (l.at ≤ length l.field) × (l.text.items ++ with_hyphens (drop l.at l.field) ≡ with_hyphens l.field)

abbrev pub decreases-loop-at : goal.decreases-loop-at
decreases-loop-at l = length l.field - l.at
