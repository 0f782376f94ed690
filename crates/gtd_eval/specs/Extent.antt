-- At which seconds a domain holds: at none, at some, or at all.
use Rattle.std.specs.Prelude.{ℤ, Bool, true, false, pos, ◌*ℤ◌, ◌≤ℤ◌, ◌<ℤ◌}
use Rattle.gtd_core.specs.Limits.{day_seconds, first_horizon_day}
use Rattle.gtd_core.specs.Parts.{domain_tree}
use Rattle.gtd_core.specs.Seconds.{IsHorizonSecond}
use Rattle.gtd_core.specs.Trees.{Tree}
use Rattle.gtd_core.specs.declared.domain.Domain.{Domain}
use Rattle.gtd_spans.specs.Change.{NeverChanges, SameAt}
use Rattle.gtd_eval.specs.Membership.{InTree, SomeGivesYear}
use Rattle.gtd_eval.specs.declared.extent.Extent.{Extent}
use Rattle.gtd_eval.specs.declared.extent.Extent.TheVariants.{Never, Sometimes, Always}

-- The second is looked at: each of all time, or if some start gives a year, each of the days from 1901-01-01 to 2699-12-31.
abbrev pub IsLookedAt : Tree → ℤ → Type 0
IsLookedAt tree t = SomeGivesYear tree → IsHorizonSecond t

-- of the seconds looked at, the expression contains none; some, but not all; all
abbrev pub IsTreeExtent : Tree → Extent → Type 0
IsTreeExtent tree Never = (t : ℤ) → IsLookedAt tree t → InTree tree t → ⊥
IsTreeExtent tree Sometimes =
    ((t : ℤ) × IsLookedAt tree t × InTree tree t) × ((t : ℤ) × IsLookedAt tree t × (InTree tree t → ⊥))
IsTreeExtent tree Always = (t : ℤ) → IsLookedAt tree t → InTree tree t

abbrev pub IsExtent : Domain → Extent → Type 0
IsExtent domain extent = IsTreeExtent (domain_tree domain) extent

-- 1901-01-01T00:00:00
abbrev pub first_second : ℤ
first_second = first_horizon_day *ℤ pos day_seconds

-- whether some second from s up to `until` is in the set where s is not, or the other way round
abbrev pub IsChanging : (ℤ → Type 0) → ℤ → ℤ → Bool → Type 0
IsChanging set s until true = (t : ℤ) × (s ≤ℤ t) × (t <ℤ until) × (SameAt set s t → ⊥)
IsChanging set s until false = NeverChanges set s until

-- whether some second looked at is in the expression where s is not, or the other way round
abbrev pub IsVaried : Tree → ℤ → Bool → Type 0
IsVaried tree s true = (t : ℤ) × IsLookedAt tree t × (SameAt (InTree tree) s t → ⊥)
IsVaried tree s false = (t : ℤ) → IsLookedAt tree t → SameAt (InTree tree) s t
