-- The order of one year says whether ranges go on to the next, and then all years must be so.
use Rattle.gtd_hours_days.proofs.EasterFacts.{over_is}
use Rattle.gtd_hours_days.proofs.easter_range.EasterRange.new.Goals as goal

pub returns-then-not-are_in_order-clause-accepted : goal.returns-then-not-are_in_order-clause-accepted
returns-then-not-are_in_order-clause-accepted c = (
  (λ yes. cc),
  (λ there.
      let over = over_is c.is_in_order-is_over.result there.0 c.args.first c.args.last c.is_in_order-is_over.ensures there.1 in
      let yes = c.are_in_order.ensures.1 (rw over at there.1.3.0) in
      cc),
)

pub returns-then-not-are_in_next_order-clause-accepted : goal.returns-then-not-are_in_next_order-clause-accepted
returns-then-not-are_in_next_order-clause-accepted c = (
  (λ yes. cc),
  (λ there.
      let over = over_is c.is_in_order-is_over.result there.0 c.args.first c.args.last c.is_in_order-is_over.ensures there.1 in
      let yes = c.are_in_next_order.ensures.1 (rw over at there.1.3.1) in
      cc),
)

pub invariant_of-result : goal.invariant_of-result
invariant_of-result c =
    let ends = c.are_ends.ensures.0 c.if-not-are_ends.false in
    record {
      in_order = (
        ends.0,
        ends.1,
        ends.2,
        (c.are_in_order.ensures.0 c.if-not-are_in_order.false, c.are_in_next_order.ensures.0 c.if-not-are_in_next_order.false),
      );
    }
