-- What the rules left add to the warnings so far is what all rules add to those before.
use Rattle.std.proofs.Common.{List, length}
use Rattle.gtd_hours_warnings.specs.Warnings.{AddsHides, AreRules}
use Rattle.gtd_hours_warnings.specs.declared.warnings.Warning.{Warning}
use Rattle.gtd_hours_warnings.proofs.warnings.add_hides.Given as goal

abbrev pub invariant-loop-rule : goal.invariant-loop-rule
invariant-loop-rule l =
    AreRules l.fn.hours l.rest
    × ((all : List Warning) → AddsHides l.text l.fn.hours l.fn.form l.rest l.warnings.items all
    → AddsHides l.text l.fn.hours l.fn.form l.initial.rest l.initial.warnings.items all)

abbrev pub decreases-loop-rule : goal.decreases-loop-rule
decreases-loop-rule l = length l.rest
