-- Marks set from the place of the first day to that of the last are the days between them, added to those before.
use Rattle.std.proofs.Common.{rules, FitsSigned, w64, to_z-of_z}
use Rattle.gtd_hours_holidays.proofs.MarkFacts.{days_added}
use Rattle.gtd_hours_holidays.proofs.days.Days.add.Goals as goal

pub returns-clause-added : goal.returns-clause-added
returns-clause-added c =
    let base : FitsSigned w64 c.args.self.now.first = search rules in
    days_added c.args.self.now.first c.args.self.now.marks.items c.grow.new.marks.items c.mark.new.marks.items
    c.place_of.result c.place_of-until.result c.args.first c.args.last c.requires.first_in c.requires.last_in c.requires.begun
    c.grow.ensures.same c.mark.ensures (rw (to_z-of_z c.ranges.first, to_z-of_z base) at c.place_of.ensures.place)
    (rw (to_z-of_z c.ranges.last, to_z-of_z base) at c.place_of-until.ensures.place)
