-- First intervals of a list that lie inside of bounds, handed on to a taker.
use Rattle.std.specs.Prelude.{◌≡◌, ◌++◌, Bool, true, List, [], ◌∷◌}
use Rattle.gtd_core.specs.Seconds.{Interval}
use Rattle.gtd_spans.specs.Inside.{IsInside}
use Rattle.gtd_spans.specs.declared.bounds.Bounds.{Bounds}
use Rattle.gtd_eval.specs.Taking.{HandsOn}

-- each interval of the list lies inside of the bounds
abbrev pub AreInside : Bounds → List Interval → Type 0
AreInside bounds [] = Unit {0}
AreInside bounds (x ∷ xs) = IsInside bounds x × AreInside bounds xs

-- for first intervals that are so, the taker is ready for some list that begins with them
abbrev pub IsReadyWithin : {E T : Type 0} → (E → T → List Interval → Type 0) → (List Interval → Type 0)
    → List Interval → E → T → Type 0
IsReadyWithin is_ready AreSo list into taker = (first left : List Interval) → list ≡ first ++ left → AreSo first
    → (more : List Interval) × is_ready into taker (first ++ more)

-- first intervals that are so were handed on, and the others are left; what the taker was ready for after those, it still is, if
-- it
-- asks for more
pub record TakesWithin {E T : Type 0} (is_ready : E → T → List Interval → Type 0)
    (takes : E → T → Interval → E → T → Bool → Type 0) (AreSo : List Interval → Type 0) (list : List Interval) (into : E)
    (taker : T) (left : List Interval) (after : E) (then : T) (all : Bool) : Type 0 where
  pub first : List Interval
  pub split : list ≡ first ++ left
  pub are_so : AreSo first
  pub hands_on : HandsOn takes first into taker [] after then all
  pub ready : all ≡ true → (more : List Interval) → is_ready into taker (first ++ more) → is_ready after then more
