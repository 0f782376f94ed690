-- The hours so far, with those of the terms that are left, are those of all terms.
use Rattle.std.proofs.Common.{length}
use Rattle.gtd_conditional_steps.proofs.TermLemmas.{HoursLeft}
use Rattle.gtd_conditional_steps.proofs.hours.hours_of.Given as goal

abbrev pub invariant-loop-term : goal.invariant-loop-term
invariant-loop-term l = HoursLeft l.hours l.rest l.terms

abbrev pub decreases-loop-term : goal.decreases-loop-term
decreases-loop-term l = length l.rest
