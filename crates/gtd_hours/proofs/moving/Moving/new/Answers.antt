use Rattle.gtd_hours.specs.facts.OrderFacts.{order-from, order-to}
use Rattle.gtd_hours.proofs.YearFacts.{goes-over}
use Rattle.gtd_hours.proofs.moving.Moving.new.Goals as goal

pub returns-then-not-are_in_order-clause-accepted : goal.returns-then-not-are_in_order-clause-accepted
returns-then-not-are_in_order-clause-accepted c = (
  (λ yes. cc),
  (λ there.
      let is = there.1 in
      let each = order-to there.0 c.args.first c.args.last is.0 is.1 is.3 in
      let over = goes-over there.0 c.args.first c.args.last each c.comes_before-is_over.result c.comes_before-is_over.ensures in
      let yes = c.are_in_order.ensures.1 (rw over at each) in
      cc),
)

pub invariant_of-result : goal.invariant_of-result
invariant_of-result c =
    let ends = c.are_ends.ensures.0 c.if-not-are_ends.false in
    record {
      in_order = (
        ends.0,
        ends.1,
        ends.2,
        order-from c.comes_before-is_over.result c.args.first c.args.last (c.are_in_order.ensures.0 c.if-not-are_in_order.false),
      );
    }
