-- Facts of the definitions in `Ascending`.
use Rattle.std.specs.Prelude.{List, [], ◌∷◌, ℤ}
use Rattle.std.proofs.Props.{props}
use Rattle.gtd_recur.specs.Ascending.{AllAfter, AllBefore, IsAscending}

AllAfter-prop : (b : ℤ) (xs : List ℤ) → IsProp (AllAfter b xs)
AllAfter-prop b [] = hlevel props
AllAfter-prop b (x ∷ xs) = hlevel (props, AllAfter-prop b xs)

pub IsAscending-prop : (xs : List ℤ) → IsProp (IsAscending xs)
IsAscending-prop [] = hlevel props
IsAscending-prop (x ∷ xs) = hlevel (props, AllAfter-prop x xs, IsAscending-prop xs)

pub AllBefore-prop : (b : ℤ) (xs : List ℤ) → IsProp (AllBefore b xs)
AllBefore-prop b [] = hlevel props
AllBefore-prop b (x ∷ xs) = hlevel (props, AllBefore-prop b xs)
