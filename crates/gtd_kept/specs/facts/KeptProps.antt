-- Facts of the definitions in `Kept`.
use Rattle.std.specs.Prelude.{List}
use Rattle.std.proofs.Props.{props}
use Rattle.gtd_core.specs.Seconds.{Interval}
use Rattle.gtd_spans.specs.facts.FitsProp.{IsNormal-prop}
use Rattle.gtd_kept.specs.Kept.{CanBeginAgain, FitsTree, HasKept, kept_list, last_told, rest_of}
use Rattle.gtd_kept.specs.declared.repeat.Repeat.{Repeat}
use Rattle.gtd_kept.specs.declared.repeat.Stage.TheVariants.{Repeating}
use Rattle.gtd_kept.specs.facts.RepeatProps.{AreKept-prop}

kept-prop : (again : Repeat) (xs : List Interval) → IsProp (HasKept again xs)
kept-prop again xs = AreKept-prop again.period again.stage again.horizon.until (kept_list again) xs

again-prop : (again : Repeat) (xs : List Interval) → IsProp (CanBeginAgain again xs)
again-prop again xs =
    hlevel (props, AreKept-prop again.period (Repeating again.learnt) again.horizon.until (last_told again) xs)

pub FitsTree-prop : (again : Repeat) (xs ws : List Interval) → IsProp (FitsTree again xs ws)
FitsTree-prop again xs ws = hlevel (props, kept-prop again xs, again-prop again xs, IsNormal-prop (rest_of again xs))
