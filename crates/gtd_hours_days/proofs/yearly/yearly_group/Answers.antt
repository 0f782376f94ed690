-- A run whose days are missing in some year cannot be written as a group that comes each year.
use Rattle.gtd_hours_days.proofs.YearlyFacts.{not_yearly}
use Rattle.gtd_hours_days.proofs.yearly.yearly_group.Goals as goal

pub returns-then-not-is_each_year : goal.returns-then-not-is_each_year
returns-then-not-is_each_year c =
    not_yearly c.args.days.now c.args.years c.args.run c.in-Some.group c.in-Some.ensures
    (λ each. let yes = c.is_each_year.ensures.1 each in cc)
