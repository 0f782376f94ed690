-- Facts of the definitions in `Alone`.
use Rattle.std.proofs.Props.{props}
use Rattle.gtd_core.specs.declared.domain.Op.{Op}
use Rattle.gtd_core.specs.declared.domain.Op.TheVariants.{Union, Meet, Minus}
use Rattle.gtd_spans.specs.declared.sweep.Sides.{Sides}
use Rattle.gtd_spans.specs.declared.sweep.Sides.TheVariants.{Both, Left}
use Rattle.gtd_spans.specs.Alone.{TakesAway}

pub TakesAway-prop : (s : Sides) (op : Op) → IsProp (TakesAway s op)
TakesAway-prop Both op = hlevel props
TakesAway-prop Left Union = hlevel props
TakesAway-prop Left Meet = hlevel props
TakesAway-prop Left Minus = hlevel props
