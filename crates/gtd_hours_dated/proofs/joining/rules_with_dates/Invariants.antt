-- Each rule so far has the month days.
use Rattle.gtd_hours_dated.specs.Dated.{AreDatedRules, more_of}
use Rattle.gtd_hours_dated.proofs.joining.rules_with_dates.Given as goal

abbrev pub invariant-loop-rule : goal.invariant-loop-rule
invariant-loop-rule l = AreDatedRules (more_of l.more) l.yielded l.made.items
