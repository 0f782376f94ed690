-- Both lists are empty.
use Rattle.std.proofs.Common.{arith, refl}
use Rattle.gtd_kept.proofs.repeat.Repeat.new.Goals as goal

pub invariant_of-result-clause-enough : goal.invariant_of-result-clause-enough
invariant_of-result-clause-enough c = rw (c.in_ok-kept.ensures.items, c.in_ok-with_capacity.ensures.items) (omega arith)

pub invariant_of-result-clause-last : goal.invariant_of-result-clause-last
invariant_of-result-clause-last c = rw (c.in_ok-kept.ensures.items, c.in_ok-with_capacity.ensures.items) refl

pub invariant_of-result-clause-within : goal.invariant_of-result-clause-within
invariant_of-result-clause-within c = rw c.in_ok-kept.ensures.items (omega arith)

pub invariant_of-result-clause-told_within : goal.invariant_of-result-clause-told_within
invariant_of-result-clause-told_within c = rw c.in_ok-with_capacity.ensures.items (omega arith)
