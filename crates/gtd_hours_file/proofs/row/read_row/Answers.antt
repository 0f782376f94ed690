-- The columns are read from the left: the first that is not read stops the row, and all that are read make the row.
use Rattle.std.proofs.Common.{sym}
use Rattle.std.specs.Prelude.{Ok}
use Rattle.csv.specs.Records.{fields_of}
use Rattle.gtd_hours_options.specs.Readings.{how_read}
use Rattle.gtd_hours_file.proofs.RowFacts.{full_row, no_types, row_stops}
use Rattle.gtd_hours_file.proofs.row.read_row.Goals as goal

pub returns-in_default-2 : goal.returns-in_default-2
returns-in_default-2 c =
    let k = c.in-Some.columns in
    no_types (how_read c.args.reading) c.args.number (fields_of c.args.row.now) k.element.now k.closed.now k.vehicles.now
    k.last.now
    c.in-Some-read_number.element c.in-Some-read_closed.closed c.in_ok-vehicles.field-0 c.in-Some.ensures.four
    (sym c.in-Some-read_number.ensures.value) (sym c.in-Some-read_closed.ensures.value) c.in_ok-vehicles.ensures
    c.in_default-2.not-Some

pub returns-in-Err : goal.returns-in-Err
returns-in-Err c =
    let k = c.in-Some.columns in
    row_stops (how_read c.args.reading) c.args.number (fields_of c.args.row.now) k.element.now k.closed.now k.vehicles.now
    k.last.now
    c.in-Some-read_number.element c.in-Some-read_closed.closed c.in-Some-2.vehicles c.in-Err.stop c.in-Some.ensures.four
    (sym c.in-Some-read_number.ensures.value) (sym c.in-Some-read_closed.ensures.value)
    (rw c.in-Some-2.is at c.in_ok-vehicles.ensures) c.in-Err.ensures

pub returns : goal.returns
returns c =
    let k = c.in-Some.columns in
    full_row (how_read c.args.reading) c.args.number (fields_of c.args.row.now) k.element.now k.closed.now k.vehicles.now
    k.last.now
    c.in-Some-read_number.element c.in-Some-read_closed.closed c.in-Some-2.vehicles (Ok c.in-Ok.hours) c.in-Some.ensures.four
    (sym c.in-Some-read_number.ensures.value) (sym c.in-Some-read_closed.ensures.value)
    (rw c.in-Some-2.is at c.in_ok-vehicles.ensures) c.in-Ok.ensures
