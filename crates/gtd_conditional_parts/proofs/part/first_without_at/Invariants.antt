-- The first part without `@` is the same of the text that is left.
use Rattle.std.proofs.Common.{◌≤◌, ◌+◌, length}
use Rattle.gtd_conditional_parts.proofs.PartSteps.{FindsOn, LeftOn}
use Rattle.gtd_conditional_parts.proofs.part.first_without_at.Given as goal

abbrev pub invariant-loop-rest : goal.invariant-loop-rest
invariant-loop-rest l = record {
  fits : l.at + length l.rest ≤ length l.text;
  finds : FindsOn 0 l.text l.at l.rest;
  left : LeftOn 0 l.text l.at l.rest;
}

abbrev pub decreases-loop-rest : goal.decreases-loop-rest
decreases-loop-rest l = length l.rest
