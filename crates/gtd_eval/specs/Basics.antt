-- What is left of a list of intervals of which one was taken ahead.
use Rattle.std.specs.Prelude.{List, ◌∷◌, Option, Some, None}
use Rattle.gtd_core.specs.Seconds.{Interval}

-- the interval that was taken ahead, if there is one, and those that follow
abbrev pub ahead_list : Option Interval → List Interval → List Interval
ahead_list None left = left
ahead_list (Some x) left = x ∷ left
