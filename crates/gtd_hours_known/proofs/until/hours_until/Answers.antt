-- The years that are given are the known ones.
use Rattle.gtd_hours_known.proofs.until.hours_until.Goals as goal

pub returns-in_ok-rules-in-Some-years-clause-hours : goal.returns-in_ok-rules-in-Some-years-clause-hours
returns-in_ok-rules-in-Some-years-clause-hours c =
    rw c.in-Some.is
    (c.in-Some-years.years, c.in-Some-years.is, rw c.as_slice.ensures.value at c.in_ok-rules-in-Some-years.ensures)
