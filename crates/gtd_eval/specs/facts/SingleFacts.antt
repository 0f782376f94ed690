-- Facts of the definitions in `Single`.
use Rattle.std.specs.Prelude.{Option, Some, None}
use Rattle.std.proofs.Props.{props}
use Rattle.gtd_core.specs.Seconds.{Interval}
use Rattle.gtd_spans.specs.Normal.{IsNormal}
use Rattle.gtd_spans.specs.Merging.{listed}
use Rattle.gtd_eval.specs.Single.{IsSingle}

pub IsSingle-prop : (o : Option Interval) → IsProp (IsSingle o)
IsSingle-prop None = hlevel props
IsSingle-prop (Some x) = hlevel props

pub listed-normal : (o : Option Interval) → IsSingle o → IsNormal (listed o)
listed-normal None h = tt
listed-normal (Some x) h = (h, tt, tt)
