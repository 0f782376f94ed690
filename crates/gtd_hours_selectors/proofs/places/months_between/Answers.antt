-- The ends of a range lie apart by some months, at least one and at most fifteen.
use Rattle.gtd_hours_selectors.proofs.MovingLemmas.{less-value, months-less, months-range}
use Rattle.gtd_hours_selectors.proofs.places.months_between.Goals as goal

pub less-requires : goal.less-requires
less-requires c =
    let r = c.args.range in
    months-less r.is_over r.first r.last r.in_order _ _ _ c.end_month-2.ensures.value c.end_month.ensures.value c.more.ensures

pub returns-clause-few : goal.returns-clause-few
returns-clause-few c =
    let r = c.args.range in
    months-range r.is_over r.first r.last r.in_order _ (less-value r.is_over r.first r.last _ _ _ _ c.end_month-2.ensures.value
    c.end_month.ensures.value c.more.ensures c.less.ensures)
