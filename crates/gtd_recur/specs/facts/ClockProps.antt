-- Facts of the definitions in `Stepping` and `Asked`.
use Rattle.std.proofs.Common.{◌≡◌, ◌⊎◌, inl, inr, ℕ, Bool, ap, arith}
use Rattle.std.proofs.Props.{props}
use Rattle.gtd_core.specs.declared.start.StartParts.{StartParts}
use Rattle.gtd_recur.specs.Asked.{IsAsked}
use Rattle.gtd_recur.specs.Stepping.{AreClocks, IsBehindOne, IsStep}
use Rattle.gtd_recur.specs.declared.asks.Asks.{Asks}
use Rattle.gtd_recur.specs.declared.asks.Asks.TheVariants.{Nothing, Weekday, Date}

same : (n k : ℕ) → IsProp (n ≡ k)
same n k = hlevel props

known-prop : (step : ℕ) → IsProp ((step ≡ 60) ⊎ (step ≡ 3600))
known-prop step (inl a) (inl b) = ap inl (same step 60 a b)
known-prop step (inl a) (inr b) = absurd (omega arith)
known-prop step (inr a) (inl b) = absurd (omega arith)
known-prop step (inr a) (inr b) = ap inr (same step 3600 a b)

IsStep-prop : (test : ℕ → Bool) (step : ℕ) → IsProp (IsStep test step)
IsStep-prop test step = hlevel (props, known-prop step)

pub AreClocks-prop : (test : ℕ → Bool) (first last step : ℕ) → IsProp (AreClocks test first last step)
AreClocks-prop test first last step = hlevel (props, IsStep-prop test step)

pub IsBehindOne-prop : (test : ℕ → Bool) (first last clock : ℕ) → IsProp (IsBehindOne test first last clock)
IsBehindOne-prop test first last clock = hlevel props

pub IsAsked-prop : (p : StartParts) (asks : Asks) → IsProp (IsAsked p asks)
IsAsked-prop p Nothing = hlevel props
IsAsked-prop p Weekday = hlevel props
IsAsked-prop p Date = hlevel props
