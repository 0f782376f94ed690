-- Tags in another order say the same, and need as much.
use Rattle.gtd_conditional_steps.proofs.OrderFacts.{many_moved, said_same}
use Rattle.gtd_conditional_steps.proofs.ordered.OrderedTags.new.Goals as goal

pub returns-clause-said : goal.returns-clause-said
returns-clause-said c = λ subject rows direction. said_same subject rows direction _ _ c.in_ok-put_in_order.ensures.same

pub returns-clause-many : goal.returns-clause-many
returns-clause-many c = many_moved _ _ c.put_in_order.ensures.moved
