use Rattle.std.proofs.Common.{take}
use Rattle.gtd_hours_holidays.specs.Table.{AreOutside}
use Rattle.gtd_hours_holidays.proofs.reader.outside_of.Given as goal

-- the faults of the rows so far
abbrev pub invariant-loop-place : goal.invariant-loop-place
invariant-loop-place l = AreOutside l.rows 1 (take l.place l.rows) l.faults.items
