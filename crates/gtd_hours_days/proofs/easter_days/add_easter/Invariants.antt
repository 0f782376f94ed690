use Rattle.std.proofs.Common.{◌≡◌, ◌↔◌, ◌⊎◌, ◌≤◌, ◌-◌, ℤ, ◌-ℤ◌}
use Rattle.gtd_hours_holidays.specs.Days.{IsIn}
use Rattle.gtd_hours_holidays.specs.KnownYears.{IsOfYears}
use Rattle.gtd_hours_days.proofs.AdditionFacts.{IsEasterBefore}
use Rattle.gtd_hours_days.proofs.easter_days.add_easter.Given as goal

-- the days after Easter of the years so far are added
abbrev pub invariant-loop-year : goal.invariant-loop-year
invariant-loop-year l = record {
  begun : l.years.first - 2 ≤ l.year;
  begins : l.days.first ≡ l.fn.days.first;
  added : (n : ℤ) → IsIn l.days n
      ↔ (IsIn l.fn.days n ⊎ (IsOfYears l.years.first l.years.last n
      × IsEasterBefore (l.years.first - 2) l.year (n -ℤ l.offset.days)));
}
