use Rattle.gtd_conditional_means.proofs.TableFacts.{never_more, no_header, table_read, table_too_long}
use Rattle.gtd_conditional_means.proofs.table.read_text.Goals as goal

pub returns-in-NoHeader-clause-table : goal.returns-in-NoHeader-clause-table
returns-in-NoHeader-clause-table c =
    no_header c.alone.result _ _ _ (rw c.in-NoHeader.is at c.in_ok-take_rows.ensures.taken)
    c.alone.ensures.rows c.alone.ensures.faults

pub returns-in-All-clause-table : goal.returns-in-All-clause-table
returns-in-All-clause-table c = (table_read _ _ _ c.nothing-found.ensures.rows c.nothing-found.ensures.faults c.nothing-found.ensures.placed
    (rw c.in-All.is at c.in_ok-take_rows.ensures.taken)).0

pub returns-in-All-clause-placed : goal.returns-in-All-clause-placed
returns-in-All-clause-placed c = (table_read _ _ _ c.nothing-found.ensures.rows c.nothing-found.ensures.faults c.nothing-found.ensures.placed
    (rw c.in-All.is at c.in_ok-take_rows.ensures.taken)).1

pub returns-in-Stopped-clause-table : goal.returns-in-Stopped-clause-table
returns-in-Stopped-clause-table c = (table_too_long _ _ _ c.nothing-found.ensures.rows c.nothing-found.ensures.faults c.nothing-found.ensures.placed
    (rw c.in-Stopped.is at c.in_ok-take_rows.ensures.taken)).0

pub returns-in-Stopped-clause-placed : goal.returns-in-Stopped-clause-placed
returns-in-Stopped-clause-placed c = (table_too_long _ _ _ c.nothing-found.ensures.rows c.nothing-found.ensures.faults c.nothing-found.ensures.placed
    (rw c.in-Stopped.is at c.in_ok-take_rows.ensures.taken)).1

pub returns-in-TooMany : goal.returns-in-TooMany
returns-in-TooMany c = absurd (never_more _ _ _ c.nothing-found.ensures.rows c.nothing-found.ensures.faults c.nothing-found.ensures.placed
    (rw c.in-TooMany.is at c.in_ok-take_rows.ensures.taken))
