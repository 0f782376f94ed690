-- The kinds so far are those that were passed, with the month days if these have their place among them.
use Rattle.gtd_hours_dated.specs.Dated.{more_of}
use Rattle.gtd_hours_dated.proofs.JoiningLemmas.{AreSoFar}
use Rattle.gtd_hours_dated.proofs.joining.kinds_with_dates.Given as goal

abbrev pub invariant-loop-kind : goal.invariant-loop-kind
invariant-loop-kind l = AreSoFar l.placed (more_of l.more) l.yielded l.made.items
