use Rattle.gtd_year.proofs.WeeklyFacts.{RepeatSoFar}
use Rattle.gtd_year.proofs.weekly.is_open_weekly.Given as goal

-- the rows so far repeat, as far as they are of the element
abbrev pub invariant-loop-row : goal.invariant-loop-row
invariant-loop-row l = RepeatSoFar l.found l.element l.row-index
