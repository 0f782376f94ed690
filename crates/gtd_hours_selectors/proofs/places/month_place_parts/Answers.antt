-- A place of a weekday in its month begins in each year on the day that the end is counted on from.
use Rattle.gtd_hours_selectors.proofs.MovingLemmas.{parts-start}
use Rattle.gtd_hours_selectors.proofs.places.month_place_parts.Goals as goal

pub returns-clause-on : goal.returns-clause-on
returns-clause-on c n =
    let on = c.place_parts.ensures.on n in
    let starts = parts-start c.args.place n c.month_of_year.result c.place_month.result c.on_back.result c.on_number.result
    c.month_of_year.ensures.value c.place_month.ensures.value c.on_back.ensures c.on_number.ensures.value in (
      (λ h. starts.0 (on.0 h)),
      (λ y. on.1 (starts.1 y)),
    )
