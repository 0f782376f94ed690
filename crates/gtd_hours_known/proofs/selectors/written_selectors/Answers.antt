-- The selectors of the groups stand before those of the runs.
use Rattle.gtd_hours_known.proofs.DayFacts.{both_written}
use Rattle.gtd_hours_known.proofs.selectors.written_selectors.Goals as goal

pub returns : goal.returns
returns c =
    rw c.in_ok-append.ensures.items
    (both_written c.args.years c.args.found.now.yearly.items c.args.found.now.dated.items c.in_ok-days.days.items
    c.in_ok-runs.runs.items (rw c.as_slice.ensures.value at c.in_ok-days.ensures)
    (rw c.as_slice-2.ensures.value at c.in_ok-runs.ensures))
