-- The first of the month is so few days after New Year that their difference fits 16 bits.
use Rattle.std.proofs.Common.{rules, ◌∙◌, pos, ◌-◌, arith}
use Rattle.gtd_calendar.specs.Calendar.{days_of_months}
use Rattle.gtd_calendar.specs.facts.YearDays.{few_before, near_cast}
use Rattle.gtd_calendar.proofs.year.days_before_month.Goals as goal

pub days_from-requires : goal.days_from-requires
days_from-requires c =
    let few = few_before (pos c.args.year) (c.args.month - 1) (omega arith) in
    let near = near_cast c.new_year.result c.first_of_month.result _ (days_of_months (pos c.args.year) (c.args.month - 1))
    (search rules) (search rules) c.new_year.ensures.day c.first_of_month.ensures.day few in
    record { order = near.0; near = near.1 }

pub returns : goal.returns
returns c =
    let few = few_before (pos c.args.year) (c.args.month - 1) (omega arith) in
    let near = near_cast c.new_year.result c.first_of_month.result _ (days_of_months (pos c.args.year) (c.args.month - 1))
    (search rules) (search rules) c.new_year.ensures.day c.first_of_month.ensures.day few in
    record { value = c.days_from.ensures.value ∙ near.2 }
