-- That a merge fits its sides has at most one proof, so that a struct may hold it.
use Rattle.std.specs.Prelude.{ℤ, List, [], ◌∷◌, Option, Some, None}
use Rattle.std.proofs.Props.{props}
use Rattle.gtd_core.specs.Seconds.{Interval}
use Rattle.gtd_core.specs.declared.domain.Op.{Op}
use Rattle.gtd_core.specs.declared.domain.Op.TheVariants.{Union, Meet, Minus}
use Rattle.gtd_spans.specs.declared.merge.Merge.{Merge}
use Rattle.gtd_spans.specs.Normal.{AllBeginAfter, IsNormal}
use Rattle.gtd_spans.specs.Merging.{AllBeginFrom, KeptFits, OnlyUnionKeeps, Fits, side_list}

AllBeginAfter-prop : (b : ℤ) (xs : List Interval) → IsProp (AllBeginAfter b xs)
AllBeginAfter-prop b [] = hlevel props
AllBeginAfter-prop b (x ∷ xs) = hlevel (props, AllBeginAfter-prop b xs)

AllBeginFrom-prop : (b : ℤ) (xs : List Interval) → IsProp (AllBeginFrom b xs)
AllBeginFrom-prop b [] = hlevel props
AllBeginFrom-prop b (x ∷ xs) = hlevel (props, AllBeginFrom-prop b xs)

pub IsNormal-prop : (xs : List Interval) → IsProp (IsNormal xs)
IsNormal-prop [] = hlevel props
IsNormal-prop (x ∷ xs) = hlevel (props, AllBeginAfter-prop x.until xs, IsNormal-prop xs)

KeptFits-prop : (o : Option Interval) (l r : List Interval) → IsProp (KeptFits o l r)
KeptFits-prop None l r = hlevel props
KeptFits-prop (Some x) l r = hlevel (props, AllBeginFrom-prop x.from l, AllBeginFrom-prop x.from r)

OnlyUnionKeeps-prop : (op : Op) (o : Option Interval) → IsProp (OnlyUnionKeeps op o)
OnlyUnionKeeps-prop Union o = hlevel props
OnlyUnionKeeps-prop Meet None = hlevel props
OnlyUnionKeeps-prop Meet (Some x) = hlevel props
OnlyUnionKeeps-prop Minus None = hlevel props
OnlyUnionKeeps-prop Minus (Some x) = hlevel props

pub Fits-prop : (s : Merge) (l r : List Interval) → IsProp (Fits s l r)
Fits-prop s l r =
    hlevel (
      props,
      IsNormal-prop (side_list s.left l),
      IsNormal-prop (side_list s.right r),
      KeptFits-prop s.kept (side_list s.left l) (side_list s.right r),
      OnlyUnionKeeps-prop s.op s.kept,
    )
