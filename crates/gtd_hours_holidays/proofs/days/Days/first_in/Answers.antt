-- The first mark that is set between two places stands for the first day of the set between two days, none of which is before the
-- first day that the set can hold.
use Rattle.std.proofs.Common.{rules, FitsSigned, w64, to_z-of_z}
use Rattle.gtd_calendar.specs.Calendar.{IsCalendarDay}
use Rattle.gtd_hours_holidays.proofs.MarkFacts as marks
use Rattle.gtd_hours_holidays.proofs.days.Days.first_in.Goals as goal

pub returns-in-Some : goal.returns-in-Some
returns-in-Some c =
    let fits : FitsSigned w64 c.day_at.result = search rules in
    let base : FitsSigned w64 c.args.self.now.first = search rules in
    let later : FitsSigned w64 c.later-begin.result = search rules in
    let low = rw (to_z-of_z c.ranges.from, to_z-of_z base) at c.later-begin.ensures in
    let begin_in : IsCalendarDay c.later-begin.result = marks.begin_in c.args.self.now c.args.from c.later-begin.result c.args.to
    low c.requires.from_in in
    record {
      first = rw (to_z-of_z fits) (marks.first_after c.args.self.now c.args.from c.later-begin.result c.args.to low
          c.day_at.result (marks.first_in c.args.self.now c.place_of-first.result c.place_of-until.result
          c.later-begin.result c.args.to begin_in c.requires.to_in
          (rw (to_z-of_z later, to_z-of_z base) at c.place_of-first.ensures.place)
          (rw (to_z-of_z c.ranges.to, to_z-of_z base) at c.place_of-until.ensures.place)
          c.in-Some.place c.day_at.result (rw (to_z-of_z base) at c.day_at.ensures.day) c.day_at.ensures.near
          (rw c.as_slice.ensures.value at c.in-Some.ensures)));
    }

pub returns-in-None : goal.returns-in-None
returns-in-None c =
    let base : FitsSigned w64 c.args.self.now.first = search rules in
    let later : FitsSigned w64 c.later-begin.result = search rules in
    let low = rw (to_z-of_z c.ranges.from, to_z-of_z base) at c.later-begin.ensures in
    let begin_in : IsCalendarDay c.later-begin.result = marks.begin_in c.args.self.now c.args.from c.later-begin.result c.args.to
    low c.requires.from_in in
    record {
      first = marks.none_after c.args.self.now c.args.from c.later-begin.result c.args.to low
          (marks.none_in c.args.self.now c.place_of-first.result c.place_of-until.result
          c.later-begin.result c.args.to begin_in c.requires.to_in
          (rw (to_z-of_z later, to_z-of_z base) at c.place_of-first.ensures.place)
          (rw (to_z-of_z c.ranges.to, to_z-of_z base) at c.place_of-until.ensures.place)
          (rw c.as_slice.ensures.value at c.in-None.ensures));
    }
