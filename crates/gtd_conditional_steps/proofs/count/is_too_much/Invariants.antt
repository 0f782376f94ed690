-- The terms so far have so many basic domains, and these are not too many.
use Rattle.std.proofs.Common.{◌≡◌, ◌≤◌, ◌+◌, length}
use Rattle.gtd_conditional_steps.specs.Hours.{terms_cost}
use Rattle.gtd_conditional_steps.proofs.count.is_too_much.Given as goal

abbrev pub invariant-loop-term : goal.invariant-loop-term
invariant-loop-term l = record { few : l.total ≤ 128; sum : terms_cost l.terms ≡ l.total + terms_cost l.rest }

abbrev pub decreases-loop-term : goal.decreases-loop-term
decreases-loop-term l = length l.rest
