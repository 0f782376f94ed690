-- The parts so far, and those of the tokens left behind them, are those of the text.
use Rattle.std.proofs.Common.{◌≡◌, ◌++◌, length}
use Rattle.gtd_hours_moments.specs.Parts.{parts_from, parts_of}
use Rattle.gtd_hours_moments.proofs.parts.parts_of.Given as goal

abbrev pub invariant-loop-token : goal.invariant-loop-token
invariant-loop-token l = l.parts.items ++ parts_from l.behind l.rest ≡ parts_of l.tokens

abbrev pub decreases-loop-token : goal.decreases-loop-token
decreases-loop-token l = length l.rest
