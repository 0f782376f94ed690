-- The counts of the walk, read for one that begins at the first day of the window.
use Rattle.std.proofs.Common.{arith}
use Rattle.gtd_calendar.specs.facts.Signed.{signed_arith}
use Rattle.gtd_recur.specs.Work.{counted_work}
use Rattle.gtd_recur.proofs.OpenLemmas.{if-both, if-none}
use Rattle.gtd_recur.proofs.starts.Starts.next.Goals as goal

pub returns-clause-at_most : goal.returns-clause-at_most
returns-clause-at_most c =
    let s = c.args.self.now in
    if-both c.next.result _ _ _ (λ b most begun. rw (← s.whole) (most b.0 (omega (arith, signed_arith)) (rw s.ahead begun)))
    c.next.ensures.at_most c.next.ensures.begun

pub returns-clause-ended : goal.returns-clause-ended
unfolding counted_work
returns-clause-ended c =
    let s = c.args.self.now in
    if-none c.next.result _ _ (λ all. rw (← s.whole) all) c.next.ensures.ended
