-- What the parts left add to the warnings so far is what all parts add to none.
use Rattle.std.proofs.Common.{List, [], length}
use Rattle.gtd_hours_warnings.specs.Warnings.{AddsLoose}
use Rattle.gtd_hours_warnings.specs.declared.warnings.Warning.{Warning}
use Rattle.gtd_hours_warnings.proofs.warnings.loose_warnings.Given as goal

abbrev pub invariant-loop-part : goal.invariant-loop-part
invariant-loop-part l =
    (all : List Warning) → AddsLoose l.text l.strict l.rest l.warnings.items all
    → AddsLoose l.text l.fn.form.text.items l.fn.form.parts.items [] all

abbrev pub decreases-loop-part : goal.decreases-loop-part
decreases-loop-part l = length l.rest
