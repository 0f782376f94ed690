-- A row of another kind, or one that only covers days, adds nothing; any other row adds its days.
use Rattle.std.proofs.Common.{rules, FitsSigned, w64, to_z-of_z}
use Rattle.gtd_hours_holidays.specs.Days.{IsIn}
use Rattle.gtd_hours_days.proofs.AdditionFacts.{row_added, row_none}
use Rattle.gtd_hours_days.proofs.additions.add_row.Goals as goal

pub returns-then-not-is_of-clause-added : goal.returns-then-not-is_of-clause-added
returns-then-not-is_of-clause-added c =
    row_none c.args.years c.args.kind c.args.offset.days c.args.row (IsIn c.args.days.now)
    (λ is. let yes = c.is_of.ensures.1 is in cc)

pub returns-clause-added : goal.returns-clause-added
returns-clause-added c =
    let first : FitsSigned w64 c.args.row.first = search rules in
    let last : FitsSigned w64 c.args.row.last = search rules in
    row_added c.args.years c.args.kind c.args.offset.days c.args.row (IsIn c.add_part.new.days) (IsIn c.args.days.now)
    (c.is_of.ensures.0 c.if-not-is_of.false) (rw (to_z-of_z first, to_z-of_z last) at c.in_ok-add_part.ensures.added)
