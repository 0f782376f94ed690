-- A range goes on to the next year, or it does not.
use Rattle.std.proofs.Common.{subst, sym, Bool, IsTrue, ◌↔◌}
use Rattle.gtd_hours_days.specs.EasterRanges.{IsInNextOrder}
use Rattle.gtd_hours_days.proofs.easter_order.is_in_next_order.Goals as goal

pub returns-then-is_over : goal.returns-then-is_over
returns-then-is_over c =
    subst (λ (o : Bool). IsTrue c.goes_on_to_next.result ↔ IsInNextOrder o c.args.first c.args.last c.args.year)
    (sym c.if-is_over.true) c.goes_on_to_next.ensures

pub returns-else-is_over : goal.returns-else-is_over
returns-else-is_over c =
    subst (λ (o : Bool). IsTrue c.ends_before_next.result ↔ IsInNextOrder o c.args.first c.args.last c.args.year)
    (sym c.if-is_over.false) c.ends_before_next.ensures
