-- Spans handed on to a taker, one after another.
use Rattle.std.specs.Prelude.{◌≡◌, ◌⊎◌, Bool, true, false, List, [], ◌∷◌, Some, None}
use Rattle.gtd_core.specs.Seconds.{Interval}
use Rattle.gtd_spans.specs.Sweeping.{Takes}

-- The taker takes the first intervals of a list: all of them, or those up to the one after which it asks for no more. After these
-- come those that are left.
abbrev pub HandsOn : {E T : Type 0} → (E → T → Interval → E → T → Bool → Type 0)
    → List Interval → E → T → List Interval → E → T → Bool → Type 0
HandsOn takes [] into taker left after then all = (left ≡ []) × (after ≡ into) × (then ≡ taker) × (all ≡ true)
HandsOn {E} {T} takes (x ∷ xs) into taker left after then all =
    (takes into taker x after then false × (left ≡ xs) × (all ≡ false))
    ⊎ ((next : E) × (more : T) × (takes into taker x next more true) × HandsOn takes xs next more left after then all)

-- whatever the taker does with the one list, it does with the other
abbrev pub CarriesOn : {E T : Type 0} → (E → T → Interval → E → T → Bool → Type 0)
    → List Interval → E → T → List Interval → E → T → Type 0
CarriesOn {E} {T} takes now into taker first into0 taker0 = (left : List Interval) (after : E) (then : T) (all : Bool)
    → HandsOn takes now into taker left after then all → HandsOn takes first into0 taker0 left after then all

-- the taker took some first intervals of a list, and asks for those that are left, or for no more
abbrev pub TakesSome : {E T : Type 0} → (E → T → Interval → E → T → Bool → Type 0)
    → List Interval → E → T → List Interval → E → T → Bool → Type 0
TakesSome takes first into0 taker0 left into taker true = CarriesOn takes left into taker first into0 taker0
TakesSome takes first into0 taker0 left into taker false = HandsOn takes first into0 taker0 left into taker false

-- what is handed on of a list is what is handed out of it by one `next` after another
pub record IsByNext {E T : Type 0} (takes : E → T → Interval → E → T → Bool → Type 0) : Type 0 where
  pub none : (before after : List Interval) (into : E) (taker : T) → Takes before None after
      → HandsOn takes before into taker [] into taker true
  pub more : (before after left : List Interval) (x : Interval) (into next end : E) (taker more then : T) (all : Bool)
      → Takes before (Some x) after → takes into taker x next more true → HandsOn takes after next more left end then all
      → HandsOn takes before into taker left end then all
  pub last : (before after : List Interval) (x : Interval) (into end : E) (taker then : T) → Takes before (Some x) after
      → takes into taker x end then false → HandsOn takes before into taker after end then false
