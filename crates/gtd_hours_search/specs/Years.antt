-- Expressions of which no stretch that begins in a year that is given reaches 2300.
use Rattle.std.specs.Prelude.{◌≤◌, IfSome}
use Rattle.gtd_core.specs.Limits.{most_bound}
use Rattle.gtd_core.specs.Ranges.{bound_of}
use Rattle.gtd_core.specs.Trees.{Tree, Single, Joined}
use Rattle.gtd_core.specs.declared.duration.DurationParts.{DurationParts}
use Rattle.gtd_core.specs.declared.start.StartParts.{StartParts}

-- a year, if one is given, is from 1902 to 2150, and no stretch is longer than any may be
abbrev pub IsNear : StartParts → DurationParts → Type 0
IsNear start duration = IfSome start.year (λ y. (1902 ≤ y) × (y ≤ 2150)) × (bound_of duration ≤ most_bound)

abbrev pub HasNearYears : Tree → Type 0
HasNearYears (Single start duration) = IsNear start duration
HasNearYears (Joined op left right) = HasNearYears left × HasNearYears right
