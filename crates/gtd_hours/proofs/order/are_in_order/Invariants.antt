use Rattle.std.proofs.Common.{◌<◌, ◌≤◌, ℕ, pos}
use Rattle.gtd_hours.specs.ComputedPlaces.{IsInOrder}
use Rattle.gtd_hours.proofs.order.are_in_order.Given as goal

-- the ranges of the years so far are in order
abbrev pub invariant-loop-year : goal.invariant-loop-year
invariant-loop-year l = (year : ℕ) → 2000 ≤ year → year < l.year → IsInOrder l.is_over l.first l.last (pos year)
