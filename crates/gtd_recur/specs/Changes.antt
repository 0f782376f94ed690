-- When a basic domain begins to hold, and when it ceases to.
use Rattle.std.specs.Prelude.{◌≡◌, ℤ, ◌<ℤ◌, ◌≤ℤ◌, IsTrue}
use Rattle.gtd_core.specs.declared.start.StartParts.{StartParts}
use Rattle.gtd_core.specs.declared.duration.DurationParts.{DurationParts}
use Rattle.gtd_core.specs.Seconds.{day_of_second}
use Rattle.gtd_calendar.specs.ComputedEnds.{stop}
use Rattle.gtd_recur.specs.Begins.{begins}
use Rattle.gtd_recur.specs.ComputedStretches.{IsHeldToStop}

-- e is the end of a stretch that holds second s
abbrev pub IsStretchEnd : StartParts → DurationParts → ℤ → ℤ → Type 0
IsStretchEnd p q s e = (b : ℤ) × IsHeldToStop p q b s × (e ≡ stop q b)

-- no stretch begins after second s and before day n
abbrev pub NoneStarts : StartParts → ℤ → ℤ → Type 0
NoneStarts p s n = (b : ℤ) → IsTrue (begins p b) → s <ℤ b → day_of_second b <ℤ n → ⊥

-- b is the first second after s at which a stretch begins
pub record IsNextStart (p : StartParts) (s b : ℤ) : Type 0 where
  pub later : s <ℤ b
  pub begun : IsTrue (begins p b)
  pub none : (c : ℤ) → IsTrue (begins p c) → s <ℤ c → c <ℤ b → ⊥

-- u is the first second, from s on and before `until`, that is not in the set; or else it is `until`
pub record IsFirstFree (set : ℤ → Type 0) (s until u : ℤ) : Type 0 where
  pub low : s ≤ℤ u
  pub high : u ≤ℤ until
  pub held : (t : ℤ) → s ≤ℤ t → t <ℤ u → set t
  pub free : u <ℤ until → set u → ⊥
