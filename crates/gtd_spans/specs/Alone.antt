-- Which operators a sweep of one side may have.
use Rattle.gtd_core.specs.declared.domain.Op.{Op}
use Rattle.gtd_core.specs.declared.domain.Op.TheVariants.{Union, Meet, Minus}
use Rattle.gtd_spans.specs.declared.sweep.Sides.{Sides}
use Rattle.gtd_spans.specs.declared.sweep.Sides.TheVariants.{Both, Left}

-- only one side is subtracted
abbrev pub TakesAway : Sides → Op → Type 0
TakesAway Both op = Unit {0}
TakesAway Left Union = ⊥
TakesAway Left Meet = ⊥
TakesAway Left Minus = Unit {0}
