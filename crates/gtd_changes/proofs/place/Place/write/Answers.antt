-- With rows or without them, the line that is written is the one of the form that is asked for.
use Rattle.gtd_changes.proofs.place.Place.write.Goals as goal

pub returns-then-with_rows : goal.returns-then-with_rows
returns-then-with_rows c = record { line = rw (c.if-with_rows.true) c.write_full.ensures.line }

pub returns-else-with_rows : goal.returns-else-with_rows
returns-else-with_rows c = record { line = rw (c.if-with_rows.false) c.write_change.ensures.line }
