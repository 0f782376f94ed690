-- what is left suits as all do
use Rattle.std.proofs.Common.{◌≡◌, length}
use Rattle.gtd_hours_text2.specs.Parts.{all_suit}
use Rattle.gtd_hours_text2.proofs.brackets.all_suit.Given as goal

abbrev pub invariant-loop-nth : goal.invariant-loop-nth
invariant-loop-nth l = all_suit l.offset l.rest ≡ all_suit l.fn.offset l.fn.numbers

abbrev pub decreases-loop-nth : goal.decreases-loop-nth
decreases-loop-nth l = length l.rest
