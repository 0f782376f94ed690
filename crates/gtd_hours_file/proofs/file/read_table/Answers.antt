-- Each way in which the rows end gives what the table says: a missing header alone, all rows, or too many with a fault.
use Rattle.gtd_hours_options.specs.Readings.{how_read}
use Rattle.gtd_hours_file.proofs.ReadFacts.{no_header, table_read, table_too_long}
use Rattle.gtd_hours_file.proofs.file.read_table.Goals as goal

pub returns-in-NoHeader : goal.returns-in-NoHeader
returns-in-NoHeader c =
    no_header (how_read c.args.by) c.alone.result _ _ _ (rw c.in-NoHeader.is at c.in_ok-take_rows.ensures.taken)
    c.alone.ensures.sound c.alone.ensures.faults

pub returns-in-All : goal.returns-in-All
returns-in-All c =
    table_read _ _ _ c.nothing.ensures.sound c.nothing.ensures.faults (rw c.in-All.is at c.in_ok-take_rows.ensures.taken)

pub returns-in_ok-push-in-TooMany : goal.returns-in_ok-push-in-TooMany
returns-in_ok-push-in-TooMany c =
    rw c.in_ok-push-in-TooMany.ensures.items
    (table_too_long _ _ _ c.nothing.ensures.sound c.nothing.ensures.faults
    (rw c.in-TooMany.is at c.in_ok-take_rows.ensures.taken))
