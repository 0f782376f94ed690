-- The shape of a tree of sweeps. Handing out spans does not change it.
use Rattle.std.specs.Prelude.{ℕ, ◌+◌, max}

-- How large a tree or a leaf is: how many nodes it has, and how many the longest way down; the days that its runs may look at and
-- the starts that they may take; and how many periods it keeps the spans of.
pub record Size : Type 0 where
  pub nodes : ℕ
  pub height : ℕ
  pub work : ℕ
  pub periods : ℕ

-- a fixed span or none; a leaf of that size; a sweep over one tree, or over two
pub data Shape : Type 0 where
  fixed : Shape
  leaf : (size : Size) → Shape
  one : (inner : Shape) → Shape
  two : (left right : Shape) → Shape

-- how many nodes it has
abbrev pub shape_nodes : Shape → ℕ
shape_nodes fixed = 1
shape_nodes (leaf size) = size.nodes
shape_nodes (one inner) = 1 + shape_nodes inner
shape_nodes (two left right) = 1 + shape_nodes left + shape_nodes right

-- how many nodes the longest way down has
abbrev pub shape_height : Shape → ℕ
shape_height fixed = 1
shape_height (leaf size) = size.height
shape_height (one inner) = 1 + shape_height inner
shape_height (two left right) = 1 + max (shape_height left) (shape_height right)

-- the sum of the work of its leaves
abbrev pub shape_work : Shape → ℕ
shape_work fixed = 0
shape_work (leaf size) = size.work
shape_work (one inner) = shape_work inner
shape_work (two left right) = shape_work left + shape_work right

-- how many periods its leaves keep the spans of
abbrev pub shape_periods : Shape → ℕ
shape_periods fixed = 0
shape_periods (leaf size) = size.periods
shape_periods (one inner) = shape_periods inner
shape_periods (two left right) = shape_periods left + shape_periods right

-- how many parts it has, where a leaf is one
abbrev pub shape_parts : Shape → ℕ
shape_parts fixed = 1
shape_parts (leaf size) = 1
shape_parts (one inner) = 1 + shape_parts inner
shape_parts (two left right) = 1 + shape_parts left + shape_parts right
