-- Each end has one day in a year, so these are in order if and only if all are.
use Rattle.std.proofs.Common.{rules, FitsSigned, w64, to_z-of_z}
use Rattle.gtd_hours_days.proofs.EasterFacts.{next_of}
use Rattle.gtd_hours_days.proofs.easter_order.ends_before_next.Goals as goal

pub returns : goal.returns
returns c =
    let last : FitsSigned w64 c.day_in.result = search rules in
    let first : FitsSigned w64 c.day_in-2.result = search rules in
    next_of c.is_before.result c.args.first c.args.last c.args.year c.day_in.result c.day_in-2.result c.requires.first_in
    c.requires.last_in c.day_in.ensures c.day_in-2.ensures (rw (to_z-of_z last, to_z-of_z first) at c.is_before.ensures)
