use Rattle.std.proofs.Common.{take}
use Rattle.gtd_hours_days.specs.Listed.{CoversAll}
use Rattle.gtd_hours_days.proofs.coverage.first_uncovered.Given as goal

-- the table says all for the selectors so far
abbrev pub invariant-loop-place : goal.invariant-loop-place
invariant-loop-place l = CoversAll l.holidays.rows.items l.years (take l.place l.listed)
