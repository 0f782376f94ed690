-- The types so far, for which the terms that are left hold, are those of the mode for which all terms do.
use Rattle.std.proofs.Common.{length}
use Rattle.gtd_rows.specs.Serving.{Serves}
use Rattle.gtd_conditional_steps.specs.Hours.{EachHoldsFor}
use Rattle.gtd_conditional_steps.proofs.TermLemmas.{TypesLeft}
use Rattle.gtd_conditional_steps.proofs.types.types_for.Given as goal

abbrev pub invariant-loop-term : goal.invariant-loop-term
invariant-loop-term l =
    TypesLeft l.means.rows.items l.types l.rest (λ t. Serves l.mode t × EachHoldsFor l.means.rows.items l.terms t)

abbrev pub decreases-loop-term : goal.decreases-loop-term
decreases-loop-term l = length l.rest
