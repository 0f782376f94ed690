-- The days are written as groups and runs, and the selectors have the days of these.
use Rattle.gtd_hours_known.proofs.DayFacts.{some_written}
use Rattle.gtd_hours_known.proofs.selectors.listed_selectors.Goals as goal

pub written_selectors-requires : goal.written_selectors-requires
written_selectors-requires c = c.in_ok-found.ensures.grouped.3

pub returns-clause-days : goal.returns-clause-days
returns-clause-days c =
    let found = c.in_ok-found.found in
    let grouped = c.in_ok-found.ensures.grouped in
    let written = c.in_ok-days.ensures in (
      grouped.0,
      (λ n f.
          let same = some_written c.args.years found.yearly.items found.dated.items c.in_ok-days.days.items n f written in
          ((λ h. (grouped.2 n).0 (same.0 h)), (λ h. same.1 ((grouped.2 n).1 h)))),
      (found.yearly.items, found.dated.items, grouped.1, written),
    )
