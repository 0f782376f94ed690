-- The first mark that is not set stands for the first day that is missing, and without one all days are there.
use Rattle.std.proofs.Common.{rules, FitsSigned, w64, to_z-of_z}
use Rattle.gtd_hours_holidays.proofs.MarkFacts as marks
use Rattle.gtd_hours_holidays.proofs.days.Days.first_missing.Goals as goal

pub returns-in-Some : goal.returns-in-Some
returns-in-Some c =
    let fits : FitsSigned w64 c.day_at.result = search rules in
    let base : FitsSigned w64 c.args.self.now.first = search rules in
    record {
      first = rw (to_z-of_z fits) (marks.first_missing c.args.self.now c.place_of-first.result c.place_of-until.result c.args.from
          c.args.to c.requires.from_in c.requires.to_in
          (rw (to_z-of_z c.ranges.from, to_z-of_z base) at c.place_of-first.ensures.place)
          (rw (to_z-of_z c.ranges.to, to_z-of_z base) at c.place_of-until.ensures.place)
          c.in-Some.place c.day_at.result (rw (to_z-of_z base) at c.day_at.ensures.day) c.day_at.ensures.near
          (rw c.as_slice.ensures.value at c.in-Some.ensures));
    }

pub returns-in-None : goal.returns-in-None
returns-in-None c =
    let base : FitsSigned w64 c.args.self.now.first = search rules in
    record {
      first = marks.all_in c.args.self.now c.place_of-first.result c.place_of-until.result c.args.from
          c.args.to c.requires.from_in c.requires.to_in
          (rw (to_z-of_z c.ranges.from, to_z-of_z base) at c.place_of-first.ensures.place)
          (rw (to_z-of_z c.ranges.to, to_z-of_z base) at c.place_of-until.ensures.place)
          (rw c.as_slice.ensures.value at c.in-None.ensures);
    }
