-- What is answered of selectors: their days, or why there are none.
use Rattle.std.specs.Prelude.{◌↔◌, List, Result, Ok, Err, ℤ, ⊤}
use Rattle.gtd_hours_holidays.specs.Days.{IsIn}
use Rattle.gtd_hours_holidays.specs.declared.days.Days.{Days}
use Rattle.gtd_hours_holidays.specs.declared.holidays.Holidays.{Holidays}
use Rattle.gtd_hours_holidays.specs.declared.known_years.KnownYears.{KnownYears}
use Rattle.gtd_hours_holidays.specs.declared.run.Run.{Run}
use Rattle.gtd_hours_days.specs.Groups.{IsGrouping}
use Rattle.gtd_hours_days.specs.Listed.{CoversAll, IsUncovered, SomeListed}
use Rattle.gtd_hours_days.specs.Parts.{AreShort, IsWritten}
use Rattle.gtd_hours_days.specs.declared.group.Group.{Group}
use Rattle.gtd_hours_days.specs.declared.grouping.Grouping.{Grouping}
use Rattle.gtd_hours_days.specs.declared.listed.Listed.{Listed}
use Rattle.gtd_hours_days.specs.declared.selection.ListedFault.{ListedFault}
use Rattle.gtd_hours_days.specs.declared.selection.ListedFault.TheVariants as fault

-- the set has the days on which one of the selectors holds, of which the table says all; or it does not say all
abbrev pub AreSelected : Holidays → KnownYears → List Listed → Result Days ListedFault → Type 0
AreSelected holidays years listed (Ok days) =
    CoversAll holidays.rows.items years listed × ((n : ℤ) → IsIn days n ↔ SomeListed holidays.rows.items years listed n)
AreSelected holidays years listed (Err (fault.Uncovered found)) =
    IsUncovered holidays.rows.items years listed found.place found.day
AreSelected holidays years listed (Err fault.NoMemory) = ⊤

-- The set of some days is written so.
abbrev pub IsGroupingOf : (ℤ → Type 0) → KnownYears → List Group → List Run → Type 0
IsGroupingOf days years yearly dated = (set : Days) × ((n : ℤ) → IsIn set n ↔ days n) × IsGrouping set years yearly dated

-- Those days are written so: they are the days of the groups in the years and of the runs, each of which is short enough for one
-- basic domain. Or the table does not say all.
abbrev pub AreGrouped : Holidays → KnownYears → List Listed → Result Grouping ListedFault → Type 0
AreGrouped holidays years listed (Ok found) =
    CoversAll holidays.rows.items years listed
    × IsGroupingOf (SomeListed holidays.rows.items years listed) years found.yearly.items found.dated.items
    × ((n : ℤ) → IsWritten years found.yearly.items found.dated.items n ↔ SomeListed holidays.rows.items years listed n)
    × AreShort found.dated.items
AreGrouped holidays years listed (Err (fault.Uncovered found)) =
    IsUncovered holidays.rows.items years listed found.place found.day
AreGrouped holidays years listed (Err fault.NoMemory) = ⊤
