-- Changes of membership over all later seconds.
use Rattle.std.specs.Prelude.{ℤ, pos, ◌<ℤ◌}
use Rattle.gtd_spans.specs.Change.{SameAt}

-- every later second is in the set exactly if s is
abbrev pub NeverChangesAfter : (ℤ → Type 0) → ℤ → Type 0
NeverChangesAfter set s = (t : ℤ) → s <ℤ t → SameAt set s t

-- c is the least second after s at which membership in the set differs from that at s
pub record IsFirstChange (set : ℤ → Type 0) (s c : ℤ) : Type 0 where
  pub later : s <ℤ c
  pub differs : SameAt set s c → ⊥
  pub least : (t : ℤ) → s <ℤ t → t <ℤ c → SameAt set s t

-- The seconds of 400 years of the Gregorian calendar, 146,097 days, after which it repeats.
abbrev pub cycle : ℤ
cycle = pos 12622780800

-- The seconds of a week.
abbrev pub week : ℤ
week = pos 604800
