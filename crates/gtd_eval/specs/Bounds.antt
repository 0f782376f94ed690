-- What the basic domains of an expression that repeat weekly say alone of its seconds, whatever the others contain.
use Rattle.std.specs.Prelude.{ℤ, Bool, true, false, not}
use Rattle.gtd_core.specs.Trees.{Tree, Single, Joined}
use Rattle.gtd_core.specs.declared.domain.Op.{Op}
use Rattle.gtd_core.specs.declared.domain.Op.TheVariants.{Union, Meet, Minus}
use Rattle.gtd_core.specs.declared.duration.DurationParts.{DurationParts}
use Rattle.gtd_core.specs.declared.start.StartParts.{StartParts}
use Rattle.gtd_recur.specs.Membership.{InStretches}
use Rattle.gtd_recur.specs.Periods.{RepeatsAfter}
use Rattle.gtd_recur.specs.Weekly.{IsWeekly}
use Rattle.gtd_spans.specs.Normal.{Combined}

-- a basic domain that does not repeat weekly is taken for all seconds, if what is bounded is bounded from above, or else for none
abbrev pub InBasicBound : Bool → StartParts → DurationParts → ℤ → Type 0
InBasicBound true start duration t = IsWeekly start duration → InStretches start duration t
InBasicBound false start duration t = IsWeekly start duration × InStretches start duration t

-- whether the right side is bounded from above: what is taken away, if the whole is bounded from below
abbrev pub right_bound : Op → Bool → Bool
right_bound Union upper = upper
right_bound Meet upper = upper
right_bound Minus upper = not upper

-- a set that has each second of the expression, or else only seconds of it
abbrev pub InBound : Bool → Tree → ℤ → Type 0
InBound upper (Single start duration) t = InBasicBound upper start duration t
InBound upper (Joined op left right) t = Combined op (InBound upper left t) (InBound (right_bound op upper) right t)

-- each basic domain of the expression that repeats weekly repeats after w seconds
abbrev pub WeeklyRepeat : ℤ → Tree → Type 0
WeeklyRepeat w (Single start duration) = IsWeekly start duration → RepeatsAfter w start duration
WeeklyRepeat w (Joined op left right) = WeeklyRepeat w left × WeeklyRepeat w right
