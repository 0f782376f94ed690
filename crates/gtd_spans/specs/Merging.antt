-- What a merge still has to hand out, given what its sides still give.
use Rattle.std.specs.Prelude.{ℕ, ◌+◌, ◌≡◌, ◌≢◌, ◌<ℤ◌, ◌≤ℤ◌, List, [], ◌∷◌, Option, Some, None}
use Rattle.gtd_core.specs.Seconds.{Interval}
use Rattle.gtd_core.specs.declared.domain.Op.{Op}
use Rattle.gtd_core.specs.declared.domain.Op.TheVariants.{Union, Meet, Minus}
use Rattle.gtd_spans.specs.declared.merge.Side.{Side}
use Rattle.gtd_spans.specs.declared.merge.Side.TheVariants.{Open, Held, Ended}
use Rattle.gtd_spans.specs.declared.merge.Ask.{Ask}
use Rattle.gtd_spans.specs.declared.merge.Ask.TheVariants.{Left, Right, Give, End}
use Rattle.gtd_spans.specs.declared.merge.Merge.{Merge}
use Rattle.gtd_spans.specs.Normal.{IsNormal, combine}
pub use Rattle.gtd_spans.specs.Normal.{AllBeginFrom}

-- the interval, if there is one, as a list
abbrev pub listed : Option Interval → List Interval
listed None = []
listed (Some x) = x ∷ []

-- what is still to come of a side: what it was told and has not used, and then what its source gives
abbrev pub side_list : Side → List Interval → List Interval
side_list Open l = l
side_list (Held x) l = x ∷ l
side_list Ended l = []

-- the normal list that a merge still has to hand out, if its sides still give l and r
abbrev pub still : Merge → List Interval → List Interval → List Interval
still s l r = combine Union (listed s.kept) (combine s.op (side_list s.left l) (side_list s.right r))

-- no side has an interval that begins before the one that is kept back
abbrev pub KeptFits : Option Interval → List Interval → List Interval → Type 0
KeptFits None l r = Unit {0}
KeptFits (Some x) l r = (x.from <ℤ x.until) × AllBeginFrom x.from l × AllBeginFrom x.from r

-- only a union keeps an interval back
abbrev pub OnlyUnionKeeps : Op → Option Interval → Type 0
OnlyUnionKeeps Union o = Unit {0}
OnlyUnionKeeps Meet None = Unit {0}
OnlyUnionKeeps Meet (Some x) = ⊥
OnlyUnionKeeps Minus None = Unit {0}
OnlyUnionKeeps Minus (Some x) = ⊥

-- the merge may be in this state if its sides still give l and r
pub record Fits (s : Merge) (l r : List Interval) : Type 0 where
  pub left : IsNormal (side_list s.left l)
  pub right : IsNormal (side_list s.right r)
  pub kept : KeptFits s.kept (side_list s.left l) (side_list s.right r)
  pub keeps : OnlyUnionKeeps s.op s.kept

-- between the two states nothing was handed out
abbrev pub Keeps : Merge → Merge → Type 0
Keeps s t = (l r : List Interval) → Fits s l r → Fits t l r × (still s l r ≡ still t l r)

-- between the two states the interval was handed out
abbrev pub Gives : Interval → Merge → Merge → Type 0
Gives x s t = (l r : List Interval) → Fits s l r → Fits t l r × (still s l r ≡ x ∷ still t l r)

-- what the merge is told next is of the left side, or of the right one
abbrev pub AwaitsLeft : Merge → Type 0
AwaitsLeft s = s.left ≡ Open

abbrev pub AwaitsRight : Merge → Type 0
AwaitsRight s = (s.left ≢ Open) × (s.right ≡ Open)

-- a step from one state to another with that answer
abbrev pub Steps : Merge → Ask → Merge → Type 0
Steps s Left t = AwaitsLeft t × Keeps s t
Steps s Right t = AwaitsRight t × Keeps s t
Steps s (Give x) t = Gives x s t
Steps s End t = Keeps s t × ((l r : List Interval) → Fits s l r → still s l r ≡ [])

-- the list before and after its first interval is taken off, if there is one
abbrev pub Takes : List Interval → Option Interval → List Interval → Type 0
Takes before None after = (before ≡ []) × (after ≡ [])
Takes before (Some x) after = before ≡ x ∷ after

-- what was handed out, if anything, and the list before and after it
abbrev pub Handed : Option Interval → List Interval → List Interval → Type 0
Handed None old new = old ≡ new
Handed (Some x) old new = old ≡ x ∷ new

-- the interval comes first on the side, or the side has ended
abbrev pub ComesFirst : Option Interval → Side → Type 0
ComesFirst None side = side ≡ Ended
ComesFirst (Some x) side = side ≡ Held x

-- 0 if the side has ended, otherwise 1
abbrev pub unended : Side → ℕ
unended Open = 1
unended (Held x) = 1
unended Ended = 0

-- the same sides have ended in both states
abbrev pub SameEnded : Merge → Merge → Type 0
SameEnded s t = (unended s.left ≡ unended t.left) × (unended s.right ≡ unended t.right)

-- the state after the left side was told its first interval; the same for the right side
abbrev pub TellsLeft : Merge → Option Interval → Merge → Type 0
TellsLeft s told t = (before after r : List Interval) → Takes before told after → Fits s before r
    → Fits t after r × (still s before r ≡ still t after r)

abbrev pub TellsRight : Merge → Option Interval → Merge → Type 0
TellsRight s told t = (l before after : List Interval) → Takes before told after → Fits s l before
    → Fits t l after × (still s l before ≡ still t l after)

-- the side is known to have an interval that contains the whole of another
abbrev pub Covers : Side → Interval → Type 0
Covers Open x = ⊥
Covers (Held y) x = (y.from ≤ℤ x.from) × (x.until ≤ℤ y.until)
Covers Ended x = ⊥

-- the side is known to have nothing before an interval ends
abbrev pub ComesBehind : Side → Interval → Type 0
ComesBehind Open x = ⊥
ComesBehind (Held y) x = x.until ≤ℤ y.from
ComesBehind Ended x = Unit {0}

-- an interval that comes first on the left side is the next one of the result, by what is held of the right side; the same for
-- the right side
abbrev pub IsLeftGivenBy : Op → Side → Interval → Type 0
IsLeftGivenBy Union side x = ⊥
IsLeftGivenBy Meet side x = Covers side x
IsLeftGivenBy Minus side x = ComesBehind side x

abbrev pub IsRightGivenBy : Op → Side → Interval → Type 0
IsRightGivenBy Union side x = ⊥
IsRightGivenBy Meet side x = Covers side x
IsRightGivenBy Minus side x = ⊥

abbrev pub IsLeftGiven : Merge → Interval → Type 0
IsLeftGiven s x = IsLeftGivenBy s.op s.right x

abbrev pub IsRightGiven : Merge → Interval → Type 0
IsRightGiven s x = IsRightGivenBy s.op s.left x

-- the first interval of the left side is handed out, and the state stays; the same for the right side
abbrev pub GivesLeft : Merge → Interval → Type 0
GivesLeft s x = (before after r : List Interval) → Takes before (Some x) after → Fits s before r
    → Fits s after r × (still s before r ≡ x ∷ still s after r)

abbrev pub GivesRight : Merge → Interval → Type 0
GivesRight s x = (l before after : List Interval) → Takes before (Some x) after → Fits s l before
    → Fits s l after × (still s l before ≡ x ∷ still s l after)

-- how many of the sides have not ended
abbrev pub unended_sides : Merge → ℕ
unended_sides s = unended s.left + unended s.right

-- 1 if a side was told a span, and 0 if it was told that there is none
abbrev pub told_count : Option Interval → ℕ
told_count None = 0
told_count (Some x) = 1

-- a step of a merge whose left side gives nothing more, with that answer: it asks for its right side by `Left`
abbrev pub StepsBeside : Merge → Ask → Merge → Type 0
StepsBeside s Left t = AwaitsRight t × ((l : List Interval) → Fits s [] l → Fits t [] l × (still s [] l ≡ still t [] l))
StepsBeside s Right t = ⊥
StepsBeside s (Give x) t = (l : List Interval) → Fits s [] l → Fits t [] l × (still s [] l ≡ x ∷ still t [] l)
StepsBeside s End t = (l : List Interval) → Fits s [] l → Fits t [] l × (still s [] l ≡ still t [] l) × (still s [] l ≡ [])

-- the first interval was taken off the right side, where the left side gives nothing more, and what comes before it was handed out
abbrev pub TakesOff : Merge → Interval → Option Interval → Merge → Type 0
TakesOff s x given t = (after : List Interval) → Fits s [] (x ∷ after)
    → Fits t [] after × Handed given (still s [] (x ∷ after)) (still t [] after)
