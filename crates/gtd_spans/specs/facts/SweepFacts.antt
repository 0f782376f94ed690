-- Facts about sweeps.
use Rattle.std.specs.Prelude.{List}
use Rattle.std.proofs.Props.{props}
use Rattle.gtd_core.specs.Seconds.{Interval}
use Rattle.gtd_spans.specs.Normal.{IsNormal}
use Rattle.gtd_spans.specs.facts.Combining.{combine-normal}
use Rattle.gtd_spans.specs.facts.FitsProp.{Fits-prop as FitsMerge-prop}
use Rattle.gtd_spans.specs.declared.sweep.Sweep.{Sweep}
use Rattle.gtd_spans.specs.Sweeping.{still, Fits, HasOneSide}

pub still-normal : (s : Sweep) (l r : List Interval) → IsNormal (still s l r)
still-normal s l r = combine-normal _ _ _

pub Fits-prop : (s : Sweep) (l r : List Interval) → IsProp (Fits s l r)
Fits-prop s l r = FitsMerge-prop s.merge _ _

pub HasOneSide-prop : (s : Sweep) → IsProp (HasOneSide s)
HasOneSide-prop s = hlevel props
