-- Each side of an expression is smaller than the expression.
use Rattle.gtd_difference.specs.Pieces.{states_size}
use Rattle.gtd_difference.proofs.states.+longest_period.Given as goal

abbrev pub decreases-longest_period : goal.decreases-longest_period
decreases-longest_period l = states_size l.states.now
