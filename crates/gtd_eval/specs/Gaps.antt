-- Gaps between intervals, handed on to a taker.
use Rattle.std.specs.Prelude.{◌≡◌, ◌≤◌, ℕ, Bool, true, List, [], ◌∷◌, length}
use Rattle.gtd_core.specs.Seconds.{Interval}
use Rattle.gtd_spans.specs.Sweeping.{still, AwaitsLeft, Fits, HasOneSide, unended_sides}
use Rattle.gtd_spans.specs.declared.sweep.Sweep.{Sweep}
use Rattle.gtd_eval.specs.Taking.{TakesSome}

-- the sweep asks for the intervals, and the taker is ready for what the sweep makes of them
pub record IsReadyForGap {E T : Type 0} (is_ready : E → T → List Interval → Type 0) (into : E) (sweep : Sweep) (taker : T)
    (list : List Interval) : Type 0 where
  pub one_side : HasOneSide sweep
  pub awaits : AwaitsLeft sweep
  pub fits : Fits sweep list []
  pub ready : is_ready into taker (still sweep list [])

-- the sweep took the interval, and the taker what comes before it
pub record TakesGap {E T : Type 0} (is_ready : E → T → List Interval → Type 0) (takes : E → T → Interval → E → T → Bool → Type 0)
    (into : E) (sweep : Sweep) (name : ℕ) (taker : T) (x : Interval) (after : E) (swept : Sweep) (named : ℕ) (then : T)
    (all : Bool) : Type 0 where
  pub kept : name ≡ named
  pub one_side : HasOneSide swept
  pub awaits : AwaitsLeft swept
  pub count : unended_sides swept ≤ unended_sides sweep
  pub fits : (more : List Interval) → Fits sweep (x ∷ more) [] → Fits swept more []
  pub some : (more : List Interval) → Fits sweep (x ∷ more) []
      → TakesSome takes (still sweep (x ∷ more) []) into taker (still swept more []) after then all
  pub no_more : (more : List Interval) → Fits sweep (x ∷ more) []
      → length (still swept more []) ≤ length (still sweep (x ∷ more) [])
  pub ready : all ≡ true → (more : List Interval) → Fits sweep (x ∷ more) [] → is_ready into taker (still sweep (x ∷ more) [])
      → is_ready after then (still swept more [])

-- the taker took the gaps of a list, of which last intervals are left
pub record TookGaps {E T : Type 0} (is_ready : E → T → List Interval → Type 0) (takes : E → T → Interval → E → T → Bool → Type 0)
    (list left : List Interval) (into after : E) (sweep swept : Sweep) (taker then : T) (all : Bool) : Type 0 where
  pub one_side : HasOneSide swept
  pub awaits : AwaitsLeft swept
  pub count : unended_sides swept ≤ unended_sides sweep
  pub fits : Fits swept left []
  pub some : TakesSome takes (still sweep list []) into taker (still swept left []) after then all
  pub no_more : length (still swept left []) ≤ length (still sweep list [])
  pub fewer : length left ≤ length list
  pub ready : all ≡ true → is_ready into taker (still sweep list []) → is_ready after then (still swept left [])
