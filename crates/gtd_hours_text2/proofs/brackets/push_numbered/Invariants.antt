-- what is added, with the rest after it
use Rattle.std.proofs.Common.{◌≡◌, ◌++◌, length}
use Rattle.gtd_hours_text2.specs.Parts.{numbered}
use Rattle.gtd_hours_text2.proofs.brackets.push_numbered.Given as goal

abbrev pub invariant-loop-nth : goal.invariant-loop-nth
invariant-loop-nth l =
    l.out.items ++ numbered l.weekday l.offset l.rest ≡ l.initial.out.items ++ numbered l.fn.weekday l.fn.offset l.fn.numbers

abbrev pub decreases-loop-nth : goal.decreases-loop-nth
decreases-loop-nth l = length l.rest
