-- Facts of the definitions in `Stretches`.
use Rattle.std.specs.Prelude.{List, Option, Some, None, ℤ}
use Rattle.std.proofs.Props.{props}
use Rattle.gtd_core.specs.declared.duration.DurationParts.{DurationParts}
use Rattle.gtd_core.specs.declared.second.Sec.{Sec}
use Rattle.gtd_spans.specs.Normal.{IsNormal}
use Rattle.gtd_spans.specs.facts.Exists.{normal_list-normal}
use Rattle.gtd_recur.specs.Stretches.{runs_between, IsAheadIn}

pub runs_between-normal : (p : DurationParts) (bs : List ℤ) (from until : ℤ) → IsNormal (runs_between p bs from until)
unfolding runs_between
runs_between-normal p bs from until = normal_list-normal _ _ _

pub IsAheadIn-prop : (o : Option Sec) → IsProp (IsAheadIn o)
IsAheadIn-prop None = hlevel props
IsAheadIn-prop (Some b) = hlevel props
