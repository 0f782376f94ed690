-- How many operators an expression has. Its lines are not deeper.
use Rattle.std.specs.Prelude.{ℕ, ◌+◌}
use Rattle.gtd_core.specs.Trees.{Tree, Single, Joined}

abbrev pub join_count : Tree → ℕ
join_count (Single start duration) = 0
join_count (Joined op left right) = 1 + join_count left + join_count right
