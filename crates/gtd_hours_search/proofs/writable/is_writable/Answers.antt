-- Kinds in the order of their lists make a rule that can be written, if it is no fallback rule.
use Rattle.std.proofs.Common.{List, subst}
use Rattle.gtd_hours.specs.declared.hours.Kind.{Kind}
use Rattle.gtd_hours_search.specs.Order.{InOrder}
use Rattle.gtd_hours_search.proofs.OrderLemmas.{in_order}
use Rattle.gtd_hours_search.proofs.writable.is_writable.Goals as goal

pub returns : goal.returns
returns c = λ e. in_order c.args.rule.now (cc) (subst (λ (l : List Kind). InOrder 0 l) c.as_slice.ensures.value
    (c.are_in_order.ensures e))
