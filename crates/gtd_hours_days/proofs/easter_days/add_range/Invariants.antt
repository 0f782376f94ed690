use Rattle.std.proofs.Common.{◌≡◌, ◌↔◌, ◌⊎◌, ◌≤◌, ◌-◌, ℤ}
use Rattle.gtd_hours_holidays.specs.Days.{IsIn}
use Rattle.gtd_hours_holidays.specs.KnownYears.{IsOfYears}
use Rattle.gtd_hours_days.specs.EasterRanges.{IsInRangeOf}
use Rattle.gtd_hours_days.proofs.EasterFacts.{IsBefore}
use Rattle.gtd_hours_days.proofs.easter_days.add_range.Given as goal

-- the days of the ranges of the years so far are added
abbrev pub invariant-loop-year : goal.invariant-loop-year
invariant-loop-year l = record {
  begun : l.years.first - 2 ≤ l.year;
  begins : l.days.first ≡ l.fn.days.first;
  added : (n : ℤ) → IsIn l.days n
      ↔ (IsIn l.fn.days n ⊎ (IsOfYears l.years.first l.years.last n
      × IsBefore (IsInRangeOf l.range.is_over l.range.first l.range.last) (l.years.first - 2) l.year n));
}
