-- What is seen of a walk: its days, the starts still to come and those handed out, and the ticks.
use Rattle.std.specs.Prelude.{◌≡◌, ℕ, ◌+◌, ◌<◌, ◌≤◌, true, List, ◌++◌, take, Option, Some, None, ℤ, pos, ◌+ℤ◌, ◌*ℤ◌, ◌≤ℤ◌}
use Rattle.gtd_core.specs.Limits.{day_seconds}
use Rattle.gtd_core.specs.declared.second.Sec.{Sec}
use Rattle.gtd_core.specs.Parts.{start_parts}
use Rattle.gtd_core.specs.Whole.{to_day}
use Rattle.gtd_core.specs.Seconds.{day_of_second}
use Rattle.gtd_recur.specs.declared.walk.Walk.{Walk}
use Rattle.gtd_recur.specs.Ascending.{AllBefore, IsAscending}
use Rattle.gtd_recur.specs.Begins.{begins_at}
use Rattle.gtd_recur.specs.Starts.{starts_left}
use Rattle.gtd_recur.specs.Stepping.{Stepped}
use Rattle.gtd_recur.specs.Stretches.{IsAheadIn, starts_ahead}
use Rattle.gtd_recur.specs.Work.{days_between, starts_of, least_work}

-- the days that are walked over
abbrev pub walk_days : Walk → List ℤ
walk_days w = days_between w.first (to_day w.horizon)

-- the starts on them
abbrev pub walk_all : Walk → List ℤ
walk_all w = starts_of (start_parts w.basic.start) (walk_days w)

-- the starts that are still to be handed out, in order
abbrev pub walk_to_come : Walk → List ℤ
walk_to_come w = starts_left (start_parts w.basic.start) w.day w.clock w.next_day (to_day w.horizon)

-- the days that were looked at, and the starts that were handed out
abbrev pub walk_ticks : Walk → ℕ
walk_ticks w = w.looked + w.handed

-- the starts that were handed out
abbrev pub walk_given : Walk → List ℤ
walk_given w = take w.handed (walk_all w)

-- the two walks are over the same days and starts
pub record IsSameWindow (v w : Walk) : Type 0 where
  pub basic : w.basic ≡ v.basic
  pub horizon : w.horizon ≡ v.horizon
  pub first : w.first ≡ v.first
  pub seen : w.seen ≡ v.seen

-- up to the start that was taken ahead, no more was handed out, and no less was counted than must be
abbrev pub IsCountedTo : Walk → Option Sec → Type 0
IsCountedTo w None = Unit {0}
IsCountedTo w (Some b) =
    AllBefore (b.0 +ℤ pos 1) (walk_given w) × (least_work (start_parts w.basic.start) (walk_days w) b.0 ≤ walk_ticks w)

-- An earlier walk over the same days and starts, with the start that was taken ahead then, from which both may begin again: it
-- had counted no more.
pub record IsStartOf (w : Walk) (first : Option Sec) (begun : Walk) : Type 0 where
  pub basic : begun.basic ≡ w.basic
  pub horizon : begun.horizon ≡ w.horizon
  pub ascending : IsAscending (starts_ahead first (walk_to_come begun))
  pub ahead_in : IsAheadIn first
  pub counted : IsCountedTo begun first
  pub fewer : walk_ticks begun ≤ walk_ticks w

-- the start is on the open day, and the later starts of that day are left
pub record IsOpenBehind (w : Walk) (b : ℤ) : Type 0 where
  pub clock : ℕ
  pub next : w.clock ≡ clock + 1
  pub low : clock < day_seconds
  pub is : b ≡ pos day_seconds *ℤ w.day +ℤ pos clock
  pub begins : begins_at (start_parts w.basic.start) clock ≡ true

-- the starts after b up to the last of its day were passed over, each a step after the one before it, if a length is at
-- least that step; or none was
pub record IsPassed (v w : Walk) (b length last : ℤ) : Type 0 where
  pub step : ℕ
  pub list : List ℤ
  pub split : walk_to_come v ≡ list ++ walk_to_come w
  pub stepped : Stepped step b list last
  pub near : pos step ≤ℤ length
  pub day : day_of_second last ≡ day_of_second b
  pub same : IsSameWindow v w
  pub grows : walk_ticks v ≤ walk_ticks w
