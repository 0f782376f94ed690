-- A day outside the years adds nothing, and a day of the years is added as it is.
use Rattle.std.proofs.Common.{to_z-of_z}
use Rattle.gtd_hours_holidays.specs.Days.{IsIn}
use Rattle.gtd_hours_days.proofs.AdditionFacts.{begun_in, day_added, day_none, of_calendar}
use Rattle.gtd_hours_days.proofs.additions.add_day.Goals as goal

pub returns-then-not-is_of_years-clause-added : goal.returns-then-not-is_of_years-clause-added
returns-then-not-is_of_years-clause-added c =
    day_none c.args.years c.args.day (IsIn c.args.days.now)
    (λ of. let yes = (rw (to_z-of_z c.ranges.day) at c.is_of_years.ensures).1 of in cc)

pub add-requires-clause-first_in : goal.add-requires-clause-first_in
add-requires-clause-first_in c = of_calendar c.args.years _ (c.is_of_years.ensures.0 c.if-not-is_of_years.false)

pub add-requires-clause-last_in : goal.add-requires-clause-last_in
add-requires-clause-last_in c = of_calendar c.args.years _ (c.is_of_years.ensures.0 c.if-not-is_of_years.false)

pub add-requires-clause-begun : goal.add-requires-clause-begun
add-requires-clause-begun c =
    begun_in c.args.years c.args.days.now.first _ c.requires (c.is_of_years.ensures.0 c.if-not-is_of_years.false)

pub returns-clause-added : goal.returns-clause-added
returns-clause-added c =
    day_added c.args.years c.args.day (IsIn c.add.new.self) (IsIn c.args.days.now)
    ((rw (to_z-of_z c.ranges.day) at c.is_of_years.ensures).0 c.if-not-is_of_years.false)
    (rw (to_z-of_z c.ranges.day) at c.in_ok-add.ensures.added)
