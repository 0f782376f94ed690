-- Each side of an expression is smaller than the expression.
use Rattle.gtd_eval.specs.Asked.{asked_size}
use Rattle.gtd_eval.proofs.expr_stays.+stay_at.Given as goal

abbrev pub decreases-stay_at : goal.decreases-stay_at
decreases-stay_at l = asked_size l.stays.now
