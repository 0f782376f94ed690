-- The tokens left are all semicolons exactly if the tokens at the beginning are, since those passed are semicolons.
use Rattle.std.proofs.Common.{◌≡◌, length}
use Rattle.gtd_hours_loose.specs.Behind.{all_semicolons}
use Rattle.gtd_hours_loose.proofs.behind.all_semicolons.Given as goal

abbrev pub invariant-loop-token : goal.invariant-loop-token
invariant-loop-token l = all_semicolons l.rest ≡ all_semicolons l.tokens

abbrev pub decreases-loop-token : goal.decreases-loop-token
decreases-loop-token l = length l.rest
