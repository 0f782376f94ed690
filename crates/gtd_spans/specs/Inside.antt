-- Intervals that lie inside of bounds, and those that a sweep hands out as they are.
use Rattle.std.specs.Prelude.{◌≤ℤ◌, Option, IfSome}
use Rattle.gtd_core.specs.Seconds.{Interval}
use Rattle.gtd_spans.specs.declared.bounds.Bounds.{Bounds}

-- the interval begins no earlier than the bounds, and ends by them
abbrev pub IsInside : Bounds → Interval → Type 0
IsInside bounds x = (bounds.from.0 ≤ℤ x.from) × (x.until ≤ℤ bounds.until.0)

-- whatever lies inside of the bounds, if there are any, is so
abbrev pub AllInside : Option Bounds → (Interval → Type 0) → Type 0
AllInside found P = IfSome found (λ bounds. (x : Interval) → IsInside bounds x → P x)
