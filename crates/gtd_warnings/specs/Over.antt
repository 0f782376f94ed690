-- Expressions that are over by a second, for ever.
use Rattle.std.specs.Prelude.{◌⊎◌, ◌≤◌, ◌<ℤ◌, ◌≤ℤ◌, ◌*ℤ◌, ℕ, ℤ, pos}
use Rattle.std.specs.Option.{IsSomeAnd}
use Rattle.gtd_core.specs.Limits.{day_seconds, horizons_end}
use Rattle.gtd_core.specs.Seconds.{Within}
use Rattle.gtd_core.specs.Trees.{Tree, Single, Joined}
use Rattle.gtd_core.specs.Whole.{whole}
use Rattle.gtd_core.specs.declared.domain.Op.TheVariants.{Union, Meet, Minus}
use Rattle.gtd_core.specs.declared.horizon.Horizon.{Horizon}
use Rattle.gtd_eval.specs.Membership.{InTree, SomeGivesYear}

-- the first second of a day
abbrev pub first_of_day : ℤ → ℤ
first_of_day day = day *ℤ pos day_seconds

-- 2700-01-01T00:00:00
abbrev pub years_end : ℤ
years_end = first_of_day horizons_end

-- The last year in which a stretch must begin to end before 2700, however long it is: at most 36,600 days.
abbrev pub last_sure_year : ℕ
last_sure_year = 2598

-- Each second of the expression is in a stretch that begins in a given year, and in no later one than that.
abbrev pub EndsByItsYears : Tree → Type 0
EndsByItsYears (Single start duration) = IsSomeAnd start.year (λ year. year ≤ last_sure_year)
EndsByItsYears (Joined Union left right) = EndsByItsYears left × EndsByItsYears right
EndsByItsYears (Joined Meet left right) = EndsByItsYears left ⊎ EndsByItsYears right
EndsByItsYears (Joined Minus left right) = EndsByItsYears left

-- What the expression contains for ever is known by what it contains before 2700: no start gives a year, so that it repeats; or
-- it ends by its years.
abbrev pub IsKnownForEver : Tree → Type 0
IsKnownForEver tree = (SomeGivesYear tree → ⊥) ⊎ EndsByItsYears tree

-- no second from s on, however late, is in the expression
abbrev pub HoldsNoneFrom : Tree → ℤ → Type 0
HoldsNoneFrom tree s = (t : ℤ) → s ≤ℤ t → InTree tree t → ⊥

-- and that is known for ever
abbrev pub IsOver : Tree → ℤ → Type 0
IsOver tree s = IsKnownForEver tree × HoldsNoneFrom tree s

-- no second from s on, and before `until`, is in the expression
abbrev pub HoldsNoneTill : Tree → ℤ → ℤ → Type 0
HoldsNoneTill tree s until = (t : ℤ) → s ≤ℤ t → t <ℤ until → InTree tree t → ⊥

-- no second of the days is in the expression
abbrev pub HoldsNoneOn : Tree → Horizon → Type 0
HoldsNoneOn tree days = (t : ℤ) → Within (whole days) t → InTree tree t → ⊥
