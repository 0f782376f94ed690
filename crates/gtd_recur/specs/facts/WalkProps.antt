-- Facts of the definitions in `Walking`.
use Rattle.std.specs.Prelude.{Option, Some, None, pos, ◌+ℤ◌}
use Rattle.std.proofs.Props.{props}
use Rattle.gtd_core.specs.declared.second.Sec.{Sec}
use Rattle.gtd_recur.specs.declared.walk.Walk.{Walk}
use Rattle.gtd_recur.specs.facts.AscendingProps.{AllBefore-prop, IsAscending-prop}
use Rattle.gtd_recur.specs.facts.StretchFacts.{IsAheadIn-prop}
use Rattle.gtd_recur.specs.Stretches.{starts_ahead}
use Rattle.gtd_recur.specs.Walking.{walk_given, walk_to_come, IsCountedTo, IsStartOf}

pub IsCountedTo-prop : (w : Walk) (o : Option Sec) → IsProp (IsCountedTo w o)
IsCountedTo-prop w None = hlevel props
IsCountedTo-prop w (Some b) = hlevel (props, AllBefore-prop (b.0 +ℤ pos 1) (walk_given w))

pub IsStartOf-prop : (w : Walk) (first : Option Sec) (begun : Walk) → IsProp (IsStartOf w first begun)
IsStartOf-prop w first begun =
    hlevel (props, IsAscending-prop (starts_ahead first (walk_to_come begun)), IsAheadIn-prop first, IsCountedTo-prop begun first)
