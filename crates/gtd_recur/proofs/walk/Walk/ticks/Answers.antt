-- The days looked at and the starts handed out are part of those that there are.
use Rattle.std.proofs.Common.{arith}
use Rattle.gtd_core.specs.Parts.{start_parts}
use Rattle.gtd_core.specs.Whole.{to_day}
use Rattle.gtd_recur.specs.Work.{whole_work}
use Rattle.gtd_recur.specs.facts.StartsLemmas.{small-counts}
use Rattle.gtd_recur.proofs.walk.Walk.ticks.Goals as goal

pub overflow_add-result : goal.overflow_add-result
overflow_add-result c =
    let s = c.args.self.now in
    let small = small-counts (start_parts s.basic.start) s.first s.seen s.day s.next_day
    (to_day s.horizon) s.looked s.handed _ s.in_window s.counted s.left in
    omega (arith, small.2, small.3)

pub returns-clause-at_most : goal.returns-clause-at_most
unfolding whole_work
returns-clause-at_most c =
    let s = c.args.self.now in
    let small = small-counts (start_parts s.basic.start) s.first s.seen s.day s.next_day
    (to_day s.horizon) s.looked s.handed _ s.in_window s.counted s.left in
    omega (arith, small.0, small.1)
