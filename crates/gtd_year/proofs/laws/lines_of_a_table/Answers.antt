-- A table has one line for each day of the year, and each of its lines is as long as any other: 17 bytes.
use Rattle.std.specs.Prelude.{pos}
use Rattle.gtd_calendar.specs.Calendar.{first_day, year_length}
use Rattle.gtd_records.specs.Closing.{IsOpen}
use Rattle.gtd_year.proofs.DayFacts.{each_line, length-days}
use Rattle.gtd_year.proofs.laws.lines_of_a_table.Goals as goal

pub returns-clause-count : goal.returns-clause-count
returns-clause-count c found element direction vehicle year lines is =
    (length-days (IsOpen found element direction vehicle) (first_day (pos year)) (year_length (pos year)) lines is).0

pub returns-clause-width : goal.returns-clause-width
returns-clause-width c found element direction vehicle year lines =
    each_line (IsOpen found element direction vehicle) (first_day (pos year)) (year_length (pos year)) lines
