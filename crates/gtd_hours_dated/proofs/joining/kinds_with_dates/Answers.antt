-- One kind more is put, with the month days if they have their place there.
use Rattle.gtd_hours_dated.specs.Dated.{more_of}
use Rattle.gtd_hours_dated.proofs.JoiningLemmas.{so_far_more}
use Rattle.gtd_hours_dated.proofs.joining.kinds_with_dates.Goals as goal

pub loop-kind-preserved : goal.loop-kind-preserved
loop-kind-preserved c =
    rw (c.is_placed-then.ensures, c.as_slice.ensures.value)
    (so_far_more c.loop-kind.placed (more_of c.args.more.now) c.loop-kind.yielded c.loop-kind.made.items c.in_ok-made.made.items
    c.in-Some.kind c.loop-kind.invariant c.in_ok-made.ensures)
