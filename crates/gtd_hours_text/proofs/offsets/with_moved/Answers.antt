-- Behind the last of them all are added.
use Rattle.gtd_hours_text.proofs.OffsetLemmas.{all_moved, empty}
use Rattle.gtd_hours_text.proofs.offsets.with_moved.Goals as goal

pub returns : goal.returns
returns c =
    let none = empty c.loop-first.rest.now c.in_default.ensures.cases in
    all_moved c.args.days c.args.list.items c.args.unmoved.items c.loop-first.rest.now c.loop-first.selectors.items none
    c.loop-first.invariant
