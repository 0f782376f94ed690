-- An element in a direction whose lines are put.
use Rattle.std.specs.Prelude.{List}
use Rattle.gtd_records.specs.ClosedWhen.{IsClosedWhen}
use Rattle.gtd_records.specs.Closing.{Restriction}
use Rattle.gtd_schedule.specs.declared.run.Schedule.{Schedule}
use Rattle.gtd_schedule.specs.declared.text.AskedDirection.{AskedDirection}

-- the restrictions close it when it is said that they do
abbrev pub IsClosedAsAsked : List Restriction → Schedule → AskedDirection → Type 0
IsClosedAsAsked found schedule asked =
    IsClosedWhen asked.at.element asked.at.direction schedule.vehicle found asked.closed.when
