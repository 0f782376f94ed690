-- Each end has one day in a year, so these are in order if and only if all are.
use Rattle.std.proofs.Common.{rules, FitsSigned, w64, to_z-of_z}
use Rattle.gtd_hours_days.proofs.EasterFacts.{order_of}
use Rattle.gtd_hours_days.proofs.easter_order.is_in_order.Goals as goal

pub returns : goal.returns
returns c =
    let first : FitsSigned w64 c.day_in.result = search rules in
    let last : FitsSigned w64 c.day_in-2.result = search rules in
    order_of c.is_order.result c.args.is_over c.args.first c.args.last c.args.year c.day_in.result c.day_in-2.result
    c.day_in.ensures c.day_in-2.ensures (rw (to_z-of_z first, to_z-of_z last) at c.is_order.ensures)
