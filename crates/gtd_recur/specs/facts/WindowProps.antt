-- Facts of the definitions in `Starts`.
use Rattle.std.specs.Prelude.{ℕ, List, ℤ}
use Rattle.std.proofs.Props.{props}
use Rattle.gtd_core.specs.declared.start.StartParts.{StartParts}
use Rattle.gtd_recur.specs.Starts.{AreLeft, IsInWindow, IsLookedCount, AreFitting}

pub AreLeft-prop : (handed : ℕ) (all left : List ℤ) → IsProp (AreLeft handed all left)
AreLeft-prop handed all left = hlevel props

pub IsInWindow-prop : (first day next end : ℤ) → IsProp (IsInWindow first day next end)
IsInWindow-prop first day next end = hlevel props

pub IsLookedCount-prop : (p : StartParts) (first seen day next : ℤ) (looked : ℕ)
    → IsProp (IsLookedCount p first seen day next looked)
IsLookedCount-prop p first seen day next looked = hlevel props

pub AreFitting-prop : (p : StartParts) (next until end : ℤ) → IsProp (AreFitting p next until end)
AreFitting-prop p next until end = hlevel props
