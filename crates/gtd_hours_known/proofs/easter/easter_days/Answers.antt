-- A rule with Easter for which all is given has years.
use Rattle.std.proofs.Common.{arith}
use Rattle.std.specs.Vec.{vec_len}
use Rattle.gtd_hours_known.proofs.GivenFacts.{found_easter, not_none, rule_given, years_for_easter}
use Rattle.gtd_hours_known.proofs.easter.easter_days.Goals as goal

pub unreachable-requires : goal.unreachable-requires
unreachable-requires c =
    years_for_easter c.args.known.now.years c.args.from.now.easter.items c.args.from.now.easter_places.items
    (λ e. not_none (vec_len c.args.from.now.easter) c.if-is_empty.ensures (omega (arith, e)))
    (rule_given c.args.known.now c.args.from.now c.requires).0 c.in-None.is

pub returns-clause-days : goal.returns-clause-days
returns-clause-days c =
    found_easter c.args.known.now c.in-Some.years c.args.from.now.easter.items c.days_in.result
    (λ e. not_none (vec_len c.args.from.now.easter) c.if-is_empty.ensures (omega (arith, e))) c.in-Some.is
    (rw c.as_slice.ensures.value at c.days_in.ensures.days)
