-- There is a table, since the open seconds of each day can be counted, and no two, since each has one count.
use Rattle.std.specs.Prelude.{pos}
use Rattle.gtd_calendar.specs.Calendar.{first_day, year_length}
use Rattle.gtd_records.specs.Closing.{IsOpen}
use Rattle.gtd_year.proofs.DayFacts as days
use Rattle.gtd_year.proofs.SomeTable.{some_lines}
use Rattle.gtd_year.proofs.laws.one_table.Goals as goal

pub returns-clause-some : goal.returns-clause-some
returns-clause-some c found element direction vehicle year =
    some_lines found element direction vehicle (first_day (pos year)) (year_length (pos year))

pub returns-clause-only : goal.returns-clause-only
returns-clause-only c found element direction vehicle year a b =
    days.one_table (IsOpen found element direction vehicle) (first_day (pos year)) (year_length (pos year)) a b
