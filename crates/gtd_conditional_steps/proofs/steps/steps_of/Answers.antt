-- The steps close when the sayings do, and there are none if hours need too many.
use Rattle.gtd_conditional_steps.specs.Sayings.{said_by}
use Rattle.gtd_conditional_steps.proofs.ClosingLemmas.{same_closed}
use Rattle.gtd_conditional_steps.proofs.steps.steps_of.Goals as goal

pub all_steps-requires : goal.all_steps-requires
all_steps-requires c = record { order = rw c.as_slice-tags.ensures.value c.args.tags.now.in_order }

pub returns-in-Ok-clause-steps : goal.returns-in-Ok-clause-steps
returns-in-Ok-clause-steps c = rw c.as_slice-tags.ensures.value at c.in-Ok.ensures

pub returns-in-Ok-clause-closed : goal.returns-in-Ok-clause-closed
returns-in-Ok-clause-closed c = λ t s is.
    let rows = c.args.means.now.rows.items in
    same_closed rows c.args.direction t s is (said_by c.args.subject rows c.args.direction c.args.tags.now.tags.items)
    c.in-Ok.steps.items (rw c.as_slice-tags.ensures.value at c.in-Ok.ensures)
