-- How long a set, or what an operator makes of two sets, stays as it is at a second.
use Rattle.std.specs.Prelude.{ℤ, ◌<ℤ◌, ◌≤ℤ◌, ◌≡◌, ◌⊎◌, ◌↔◌, Bool, true, false, IsTrue, not}
use Rattle.gtd_core.specs.Trees.{Tree, Single, Joined}
use Rattle.gtd_core.specs.declared.domain.Op.{Op}
use Rattle.gtd_core.specs.declared.domain.Op.TheVariants.{Union, Meet, Minus}
use Rattle.gtd_spans.specs.Change.{NeverChanges}
use Rattle.gtd_spans.specs.Normal.{combined}
use Rattle.gtd_recur.specs.Membership.{InStretches}
use Rattle.gtd_eval.specs.declared.stay.Stay.{Stay}

-- Whether s is in the set, and a later second, at most `last`, before which that does not change.
pub record IsStay (set : ℤ → Type 0) (s last : ℤ) (stay : Stay) : Type 0 where
  pub holds : IsTrue stay.holds ↔ set s
  pub later : s <ℤ stay.until.0
  pub within : stay.until.0 ≤ℤ last
  pub same : NeverChanges set s stay.until.0

-- u is the first second after s, and before `last`, at which membership in the set is not as at s; or else it is `last`
pub record IsStayEnd (set : ℤ → Type 0) (s last u : ℤ) : Type 0 where
  pub later : s <ℤ u
  pub within : u ≤ℤ last
  pub same : NeverChanges set s u
  pub far : (v : ℤ) → v ≤ℤ last → NeverChanges set s v → v ≤ℤ u

-- Whether the left side of the operator decides alone, whatever the right one does, by whether it has the second.
abbrev pub left_decides : Op → Bool → Bool
left_decides Union holds = holds
left_decides Meet holds = not holds
left_decides Minus holds = not holds

-- the same of the right side
abbrev pub right_decides : Op → Bool → Bool
right_decides Union holds = holds
right_decides Meet holds = not holds
right_decides Minus holds = holds

-- t comes before the end of what decides: a side that decides alone, each of two such sides in turn, or else both together
abbrev pub ComesBefore : Bool → Bool → ℤ → ℤ → ℤ → Type 0
ComesBefore true true left right t = (t <ℤ left) ⊎ (t <ℤ right)
ComesBefore true false left right t = t <ℤ left
ComesBefore false true left right t = t <ℤ right
ComesBefore false false left right t = (t <ℤ left) × (t <ℤ right)

-- what the operator makes of two sets stays so long, if these stay so long
pub record IsJoined (op : Op) (left right stay : Stay) : Type 0 where
  pub holds : stay.holds ≡ combined op left.holds right.holds
  pub until : (t : ℤ) → (t <ℤ stay.until.0)
      ↔ ComesBefore (left_decides op left.holds) (right_decides op right.holds) left.until.0 right.until.0 t

-- no basic domain of the expression changes after s and before `until`
abbrev pub NoneChanges : Tree → ℤ → ℤ → Type 0
NoneChanges (Single start duration) s until = NeverChanges (InStretches start duration) s until
NoneChanges (Joined op left right) s until = NoneChanges left s until × NoneChanges right s until
