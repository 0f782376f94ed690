use Rattle.std.proofs.Common.{◌≡◌, ◌↔◌, ◌-◌, ◌/◌, ◌%◌, ◌<◌, ◌≤◌, ℕ, ℤ}
use Rattle.gtd_hours_leaves.specs.Leaves.{InMaybe, HasNumber, maybe_leaves, minutes_of, moved_day}
use Rattle.gtd_hours_leaves.proofs.numbers.pieces.Given as goal

-- the numbers of the pieces so far, each in one basic domain
abbrev pub invariant-loop-piece : goal.invariant-loop-piece
invariant-loop-piece l =
    ((s : ℤ) → InMaybe l.so_far s
    ↔ ((k : ℕ) × (l.first ≤ k) × (k ≤ l.last) × ((k - l.first) / l.stride < l.piece) × ((k - l.first) % l.stride < l.width)
    × HasNumber l.level k (moved_day (minutes_of l.clock) s)))
    × (maybe_leaves l.so_far ≡ l.piece)
