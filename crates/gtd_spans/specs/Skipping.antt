-- First intervals of a list that are left out, since nothing depends on them.
use Rattle.std.specs.Prelude.{◌≡◌, ◌++◌, ℤ, ◌≤ℤ◌, List, [], ◌∷◌}
use Rattle.gtd_core.specs.Seconds.{Interval}
use Rattle.gtd_spans.specs.declared.merge.Merge.{Merge}
use Rattle.gtd_spans.specs.declared.sweep.Sweep.{Sweep}
use Rattle.gtd_spans.specs.Merging.{still as still_merge, Fits as FitsMerge}
use Rattle.gtd_spans.specs.Sweeping.{still, Fits}

-- each interval of the list ends at the second or before
abbrev pub AllEndBy : ℤ → List Interval → Type 0
AllEndBy second [] = Unit {0}
AllEndBy second (x ∷ xs) = (x.until ≤ℤ second) × AllEndBy second xs

-- some first intervals of the one list, which end by the second, are left out in the other
abbrev pub LeavesOut : ℤ → List Interval → List Interval → Type 0
LeavesOut second before after = (first : List Interval) × (before ≡ first ++ after) × AllEndBy second first

-- intervals of the left side that end by the second make no difference; the same for the right side
abbrev pub MergeNeedsLeftFrom : Merge → ℤ → Type 0
MergeNeedsLeftFrom s second = (before after r : List Interval) → LeavesOut second before after → FitsMerge s before r
    → FitsMerge s after r × (still_merge s before r ≡ still_merge s after r)

abbrev pub MergeNeedsRightFrom : Merge → ℤ → Type 0
MergeNeedsRightFrom s second = (l before after : List Interval) → LeavesOut second before after → FitsMerge s l before
    → FitsMerge s l after × (still_merge s l before ≡ still_merge s l after)

abbrev pub NeedsLeftFrom : Sweep → ℤ → Type 0
NeedsLeftFrom s second = (before after r : List Interval) → LeavesOut second before after → Fits s before r
    → Fits s after r × (still s before r ≡ still s after r)

abbrev pub NeedsRightFrom : Sweep → ℤ → Type 0
NeedsRightFrom s second = (l before after : List Interval) → LeavesOut second before after → Fits s l before
    → Fits s l after × (still s l before ≡ still s l after)
