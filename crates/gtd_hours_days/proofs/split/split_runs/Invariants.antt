use Rattle.std.proofs.Common.{take}
use Rattle.gtd_hours_days.specs.Groups.{AreSplit}
use Rattle.gtd_hours_days.proofs.split.split_runs.Given as goal

-- the runs so far are split
abbrev pub invariant-loop-run : goal.invariant-loop-run
invariant-loop-run l = AreSplit l.days l.years (take l.run-index l.runs) l.split.found.items l.split.others.items
