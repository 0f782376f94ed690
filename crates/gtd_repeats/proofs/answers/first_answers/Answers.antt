-- At each turn the answers so far are right: that the first row is within itself is true of any rows.
use Rattle.gtd_repeats.proofs.AnswerFacts.{more_right, none_right}
use Rattle.gtd_repeats.proofs.answers.first_answers.Goals as goal

pub loop-init : goal.loop-init
loop-init c = λ rows. rw c.new-answers.ensures.items (none_right rows)

pub loop-preserved : goal.loop-preserved
loop-preserved c = λ rows. rw c.in_ok-push.ensures.items (more_right rows c.loop.answers.items (c.loop.invariant rows))
