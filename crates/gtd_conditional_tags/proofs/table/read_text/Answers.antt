-- How the rows ended says what the file is.
use Rattle.std.proofs.Common.{refl}
use Rattle.gtd_conditional_tags.proofs.SeenFacts.{none_seen}
use Rattle.gtd_conditional_tags.proofs.TakenFacts.{never_stops, no_header, table_read, table_too_long}
use Rattle.gtd_conditional_tags.proofs.table.read_text.Goals as goal

pub returns-in-NoHeader : goal.returns-in-NoHeader
returns-in-NoHeader c =
    no_header c.alone.result _ _ _ _ (rw c.in-NoHeader.is at c.in_ok-take_rows.ensures.taken)
    c.alone.ensures.tags c.alone.ensures.faults

pub returns-in-All : goal.returns-in-All
returns-in-All c =
    table_read _ _ _ _ refl c.new-2.ensures.items c.new-3.ensures.items (none_seen _ c.new.ensures.empty)
    (rw c.in-All.is at c.in_ok-take_rows.ensures.taken)

pub returns-in-Stopped : goal.returns-in-Stopped
returns-in-Stopped c = absurd (never_stops _ _ _ (rw c.in-Stopped.is at c.in_ok-take_rows.ensures.taken))

pub returns-in_ok-push-in-TooMany : goal.returns-in_ok-push-in-TooMany
returns-in_ok-push-in-TooMany c =
    rw c.in_ok-push-in-TooMany.ensures.items
    (table_too_long _ _ _ _ refl c.new-2.ensures.items c.new-3.ensures.items (none_seen _ c.new.ensures.empty)
    (rw c.in-TooMany.is at c.in_ok-take_rows.ensures.taken))
