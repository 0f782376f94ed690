-- what is read, with the rest after it
use Rattle.std.proofs.Common.{◌≡◌, length}
use Rattle.gtd_hours_text2.specs.Parts.{before_nths, in_brackets}
use Rattle.gtd_hours_text2.specs.declared.brackets.BracketState.TheVariants.{Nothing}
use Rattle.gtd_hours_text2.proofs.brackets.in_brackets.Given as goal

abbrev pub invariant-loop-token : goal.invariant-loop-token
invariant-loop-token l = before_nths l.out.items (in_brackets l.state l.rest) ≡ in_brackets Nothing l.fn.tokens

abbrev pub decreases-loop-token : goal.decreases-loop-token
decreases-loop-token l = length l.rest
