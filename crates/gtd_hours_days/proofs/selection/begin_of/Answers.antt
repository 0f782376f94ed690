-- 366 days before the years are still in the calendar.
use Rattle.std.proofs.Common.{rules, arith, FitsSigned, w64, to_z-of_z}
use Rattle.gtd_calendar.specs.facts.Signed.{signed_arith}
use Rattle.gtd_hours_days.proofs.AdditionFacts.{begin_in}
use Rattle.gtd_hours_days.proofs.selection.begin_of.Goals as goal

pub returns-clause-near : goal.returns-clause-near
returns-clause-near c =
    let first : FitsSigned w64 c.first_day.result = search rules in
    let near = c.first_day.ensures.near in
    begin_in c.args.years c.first_day.result _ c.first_day.ensures.day near.1 (omega (arith, signed_arith, to_z-of_z first))
