-- How many basic domains the days of a set take within some years.
use Rattle.std.specs.Prelude.{◌≡◌, ℕ, List}
use Rattle.gtd_hours_holidays.specs.declared.days.Days.{Days}
use Rattle.gtd_hours_holidays.specs.declared.known_years.KnownYears.{KnownYears}
use Rattle.gtd_hours_holidays.specs.declared.run.Run.{Run}
use Rattle.gtd_hours_days.specs.Groups.{IsGrouping, grouping_cost}
use Rattle.gtd_hours_days.specs.declared.group.Group.{Group}

-- the days take so many, as they are grouped
abbrev pub IsCost : Days → KnownYears → ℕ → Type 0
IsCost days years cost =
    (yearly : List Group) × (dated : List Run) × IsGrouping days years yearly dated × (cost ≡ grouping_cost yearly dated)
