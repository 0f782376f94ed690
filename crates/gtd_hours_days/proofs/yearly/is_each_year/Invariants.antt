use Rattle.std.proofs.Common.{◌-◌, ◌<◌, ◌≤◌, ℕ}
use Rattle.gtd_hours_days.proofs.YearlyFacts.{IsInYear}
use Rattle.gtd_hours_days.proofs.yearly.is_each_year.Given as goal

-- the days of the years so far are in the set
abbrev pub invariant-loop-year : goal.invariant-loop-year
invariant-loop-year l = (year : ℕ) → l.years.first - 1 ≤ year → year < l.year → IsInYear l.days l.years l.group year
