-- At the end the marks from the first place on, before the last, are set, and all others are as they were.
use Rattle.std.proofs.Common.{arith}
use Rattle.gtd_hours_holidays.proofs.MarkFacts.{marked_all}
use Rattle.gtd_hours_holidays.proofs.days.mark.Goals as goal

pub returns : goal.returns
returns c =
    marked_all c.args.marks.now.items c.loop-place.marks.items c.args.first c.args.until c.loop-place.place
    c.loop-place.invariant.marked (omega arith) c.loop-place.invariant.short c.loop-place.invariant.empty
