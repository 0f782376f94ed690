use Rattle.std.proofs.Common.{◌≡◌, ◌++◌, List, take}
use Rattle.gtd_core.specs.Trees.{tree_of}
use Rattle.gtd_mistakes.specs.Told.{AreToldAt}
use Rattle.gtd_mistakes.specs.declared.rule.TheConstants.{RULES}
use Rattle.gtd_mistakes.specs.declared.told.Told.{Told}
use Rattle.gtd_mistakes.proofs.told.push_told_at.Given as goal

-- the rules so far are told
abbrev pub invariant-loop-rule : goal.invariant-loop-rule
invariant-loop-rule l =
    (here : List Told)
    × AreToldAt l.fn.place.row l.fn.off l.fn.place.whole l.fn.place.before (tree_of l.fn.expr) (take l.rule-index RULES) here
    × (l.told.items ≡ l.fn.told.items ++ here)
