-- A rule with holidays for which all is given has a table and years.
use Rattle.std.proofs.Common.{arith}
use Rattle.std.specs.Vec.{vec_len}
use Rattle.gtd_hours_known.specs.Rules.{IsGiven}
use Rattle.gtd_hours_known.proofs.GivenFacts.{found_days, no_found_days, no_table, no_years_given, not_none}
use Rattle.gtd_hours_known.proofs.rules.holiday_days.Goals as goal

pub unreachable-requires : goal.unreachable-requires
unreachable-requires c =
    no_table c.args.known.now c.args.from.now.holidays.items c.args.from.now.places.items
    (λ e. not_none (vec_len c.args.from.now.holidays) c.if-is_empty.ensures (omega (arith, e))) c.requires c.in-None.is

pub unreachable-requires-in-None-years : goal.unreachable-requires-in-None-years
unreachable-requires-in-None-years c =
    no_years_given c.args.known.now c.args.from.now.holidays.items c.args.from.now.places.items
    (λ e. not_none (vec_len c.args.from.now.holidays) c.if-is_empty.ensures (omega (arith, e))) c.requires
    c.in-None-years.is

pub returns-clause-days : goal.returns-clause-days
returns-clause-days c =
    let given : IsGiven c.args.known.now c.in-Some.table c.in-Some-years.years = record {
      has_table = c.in-Some.is;
      has_years = c.in-Some-years.is;
    } in
    found_days c.args.known.now c.in-Some.table c.in-Some-years.years c.args.from.now.holidays.items c.days_with.result
    (λ e. not_none (vec_len c.args.from.now.holidays) c.if-is_empty.ensures (omega (arith, e))) given
    c.days_with.ensures.days

pub returns-clause-stop : goal.returns-clause-stop
returns-clause-stop c =
    let given : IsGiven c.args.known.now c.in-Some.table c.in-Some-years.years = record {
      has_table = c.in-Some.is;
      has_years = c.in-Some-years.is;
    } in
    no_found_days c.args.known.now c.in-Some.table c.in-Some-years.years c.args.from.now c.days_with.result given
    c.days_with.ensures.stop
