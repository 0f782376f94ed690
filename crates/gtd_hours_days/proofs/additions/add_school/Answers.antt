-- School holidays are holidays moved by no day.
use Rattle.gtd_hours_holidays.specs.Days.{IsIn}
use Rattle.gtd_hours_holidays.specs.declared.row.HolidayKind.TheVariants.{School}
use Rattle.gtd_hours_days.specs.Listed.{IsKnownHoliday}
use Rattle.gtd_hours_days.proofs.AdditionFacts.{not_moved}
use Rattle.gtd_hours_days.proofs.additions.add_school.Goals as goal

pub returns-clause-added : goal.returns-clause-added
returns-clause-added c =
    not_moved (IsKnownHoliday c.args.rows.now c.args.years School) (IsIn c.add_holidays.new.days) (IsIn c.args.days.now)
    c.in_ok-add_holidays.ensures.added
