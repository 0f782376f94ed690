use Rattle.std.proofs.Common.{◌<◌, ◌≤◌, ℕ}
use Rattle.gtd_hours_days.specs.EasterRanges.{IsInNextOrder}
use Rattle.gtd_hours_days.proofs.easter_order.are_in_next_order.Given as goal

-- the days of the years so far are in order
abbrev pub invariant-loop-year : goal.invariant-loop-year
invariant-loop-year l = (y : ℕ) → 1800 ≤ y → y < l.year → IsInNextOrder l.is_over l.first l.last y
