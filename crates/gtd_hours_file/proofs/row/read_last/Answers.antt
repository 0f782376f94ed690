-- A text that is not empty is the whole column, or stops the row.
use Rattle.std.proofs.Common.{arith}
use Rattle.std.proofs.lemmas.Bool.Decides.{nat_tests}
use Rattle.gtd_hours_options.specs.Readings.{how_read}
use Rattle.gtd_hours_file.proofs.RowFacts.{column_stops, some_column}
use Rattle.gtd_hours_file.proofs.row.read_last.Goals as goal

pub returns-in-Ok : goal.returns-in-Ok
returns-in-Ok c =
    some_column (how_read c.args.reading) c.args.number c.args.text.now c.in-Ok.hours (grind (arith, nat_tests))
    c.in-Ok.ensures.hours

pub returns-in-Err : goal.returns-in-Err
returns-in-Err c =
    column_stops (how_read c.args.reading) c.args.number c.args.text.now c.in-Err.stop (grind (arith, nat_tests))
    c.in-Err.ensures.stop
