-- The runs so far are put after the rows that there were.
use Rattle.gtd_hours_holidays.proofs.MergedFacts.{ArePut}
use Rattle.gtd_hours_holidays.proofs.holidays.put_runs.Given as goal

abbrev pub invariant-loop-run : goal.invariant-loop-run
invariant-loop-run l = ArePut l.kind l.yielded l.initial.merged.items l.merged.items
