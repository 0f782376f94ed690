-- What is seen of a walk over the starts of a basic domain: the domain, the horizon, the starts still to come, the ticks.
use Rattle.std.specs.Prelude.{◌≡◌, ℕ, List, take, ℤ}
use Rattle.gtd_core.specs.declared.domain.Basic.{Basic}
use Rattle.gtd_core.specs.declared.horizon.Horizon.{Horizon}
use Rattle.gtd_recur.specs.declared.starts.Starts.{Starts}
use Rattle.gtd_recur.specs.Walking.{walk_to_come, walk_ticks, IsOpenBehind}
use Rattle.gtd_recur.specs.Work.{starts_in}

abbrev pub starts_basic : Starts → Basic
starts_basic s = s.walk.basic

abbrev pub starts_horizon : Starts → Horizon
starts_horizon s = s.walk.horizon

-- the starts that are still to be handed out, in order
abbrev pub starts_to_come : Starts → List ℤ
starts_to_come s = walk_to_come s.walk

-- the days that were looked at, and the starts that were handed out
abbrev pub starts_ticks : Starts → ℕ
starts_ticks s = walk_ticks s.walk

-- the two walks are over the same starts
pub record IsSameWalk (s t : Starts) : Type 0 where
  pub basic : t.walk.basic ≡ s.walk.basic
  pub horizon : t.walk.horizon ≡ s.walk.horizon

-- the starts that were handed out
abbrev pub starts_given : Starts → List ℤ
starts_given s = take s.walk.handed (starts_in s.walk.basic s.walk.horizon)

-- the start is on the open day, and the later starts of that day are left
abbrev pub IsOpenAfter : Starts → ℤ → Type 0
IsOpenAfter s b = IsOpenBehind s.walk b
