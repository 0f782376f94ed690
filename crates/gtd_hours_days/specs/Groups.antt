-- How a set of days is written within some years: runs of days that come each year are groups, the others have their years.
use Rattle.std.specs.Prelude.{◌≡◌, ◌⊎◌, ◌<◌, ◌≤◌, ◌+◌, ℕ, max, List, [], ◌∷◌, length, Option, Some, None, ⊤}
use Rattle.std.specs.Prelude.{ℤ, pos, ◌+ℤ◌, ◌≤ℤ◌, ◌<ℤ◌}
use Rattle.gtd_core.specs.Limits.{first_calendar_day}
use Rattle.gtd_calendar.specs.Calendar.{first_day}
use Rattle.gtd_hours.specs.Yearly.{IsMonthDayOf, IsOfDays}
use Rattle.gtd_hours_holidays.specs.Days.{IsIn}
use Rattle.gtd_hours_holidays.specs.KnownYears.{IsOfYears}
use Rattle.gtd_hours_holidays.specs.Runs.{AreRuns}
use Rattle.gtd_hours_holidays.specs.declared.days.Days.{Days}
use Rattle.gtd_hours_holidays.specs.declared.known_years.KnownYears.{KnownYears}
use Rattle.gtd_hours_holidays.specs.declared.run.Run.{Run}
use Rattle.gtd_hours_days.specs.declared.group.Group.{Group}

-- ---- groups

-- Day n is one of the group's: it comes after the group's first day of some year by fewer days than the group has.
abbrev pub IsOfGroup : Group → ℤ → Type 0
IsOfGroup group n = IsOfDays group.month group.day group.days n

-- the run begins on the group's first day, and has as many days
abbrev pub HasGroup : Run → Group → Type 0
HasGroup run group =
    IsMonthDayOf group.month group.day run.first × (run.last +ℤ pos 1 ≡ run.first +ℤ pos group.days)

-- all days of the group that lie in the years are in the set
abbrev pub IsEachYear : Days → KnownYears → Group → Type 0
IsEachYear days years group = (n : ℤ) → IsOfYears years.first years.last n → IsOfGroup group n → IsIn days n

-- The run may be written as a group: it lies within the years, and all days of the group in the years are in the set.
pub record IsYearly (days : Days) (years : KnownYears) (run : Run) (group : Group) : Type 0 where
  pub begins : first_day (pos years.first) ≤ℤ run.first
  pub ends : run.last <ℤ first_day (pos (years.last + 1))
  pub same : HasGroup run group
  pub each : IsEachYear days years group

-- the groups of the runs that may be so written, one for each run, and the other runs, both in order
abbrev pub AreSplit : Days → KnownYears → List Run → List Group → List Run → Type 0
AreSplit days years [] found others = (found ≡ []) × (others ≡ [])
AreSplit days years (run ∷ runs) found others =
    ((group : Group) × (more : List Group) × IsYearly days years run group × AreSplit days years runs more others
    × (found ≡ group ∷ more))
    ⊎ ((rest : List Run) × ((group : Group) → IsYearly days years run group → ⊥) × AreSplit days years runs found rest
    × (others ≡ run ∷ rest))

-- ---- each group once, in order

-- the order of groups: by month, by day, by how many days they are
abbrev pub IsBefore : Group → Group → Type 0
IsBefore a b = (a.month < b.month)
    ⊎ ((a.month ≡ b.month) × ((a.day < b.day) ⊎ ((a.day ≡ b.day) × (a.days < b.days))))

-- the group comes after another one, if there is one
abbrev pub ComesAfter : Option Group → Group → Type 0
ComesAfter None group = ⊤
ComesAfter (Some before) group = IsBefore before group

-- it is one of the groups
abbrev pub IsOneOf : Group → List Group → Type 0
IsOneOf group [] = ⊥
IsOneOf group (x ∷ xs) = (group ≡ x) ⊎ IsOneOf group xs

-- none of the groups comes after another one
abbrev pub AreNoneAfter : List Group → Option Group → Type 0
AreNoneAfter found after = (group : Group) → IsOneOf group found → ComesAfter after group → ⊥

-- the first of the groups that come after another one
pub record IsNextGroup (found : List Group) (after : Option Group) (group : Group) : Type 0 where
  pub is : IsOneOf group found
  pub later : ComesAfter after group
  pub first : (x : Group) → IsOneOf x found → ComesAfter after x → IsBefore x group → ⊥

-- the groups that come after one, each once and in order
abbrev pub AreGroups : List Group → Option Group → List Group → Type 0
AreGroups found after [] = AreNoneAfter found after
AreGroups found after (group ∷ groups) = IsNextGroup found after group × AreGroups found (Some group) groups

-- ---- the whole

-- Of the set's runs those that may be groups are, if they are together more than their groups and one more. Otherwise all runs
-- have their years.
pub record IsGrouping (days : Days) (years : KnownYears) (yearly : List Group) (dated : List Run) : Type 0 where
  pub runs : List Run
  pub found : List Group
  pub others : List Run
  pub groups : List Group
  pub are : AreRuns days first_calendar_day runs
  pub split : AreSplit days years runs found others
  pub each : AreGroups found None groups
  pub chosen : ((length groups + 1 < length found) × (yearly ≡ groups) × (dated ≡ others))
      ⊎ ((length found ≤ length groups + 1) × (yearly ≡ []) × (dated ≡ runs))

-- how many basic domains that takes: one for each group and one for their years, one for each run with its year, and one at least
abbrev pub groups_cost : List Group → ℕ
groups_cost [] = 0
groups_cost (group ∷ groups) = length groups + 2

abbrev pub grouping_cost : List Group → List Run → ℕ
grouping_cost yearly dated = max 1 (groups_cost yearly + length dated)
