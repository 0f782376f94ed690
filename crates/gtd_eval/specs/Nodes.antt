-- What a tree of sweeps still has to hand out, when its parts fit together, and how large it is.
use Rattle.std.specs.Prelude.{◌≡◌, ℕ, ◌+◌, List, [], ◌∷◌, Bool, IsFalse}
use Rattle.gtd_core.specs.Seconds.{Interval}
use Rattle.gtd_core.specs.Whole.{whole}
use Rattle.gtd_core.specs.declared.domain.Op.TheVariants.{Minus}
use Rattle.gtd_spans.specs.Merging.{listed}
use Rattle.gtd_spans.specs.Normal.{combine}
use Rattle.gtd_spans.specs.Sweeping.{still, Fits, HasOneSide}
use Rattle.gtd_eval.specs.Shape.{Shape, fixed, leaf as leaf_shape, one, two}
use Rattle.gtd_eval.specs.Shape.{shape_nodes, shape_height, shape_work, shape_periods, shape_parts}
use Rattle.gtd_eval.specs.Single.{IsSingle}
use Rattle.gtd_eval.specs.declared.leaf.Leaf.{Ghosts}
use Rattle.gtd_eval.specs.declared.node.Node.{Node}
use Rattle.gtd_eval.specs.declared.node.Node.TheVariants.{Fixed, Leaf, One', Two'}

module _ {L : Type 0} (g : Ghosts L) where
  -- the normal list that the tree still has to hand out
  abbrev pub node_list : Node L → List Interval
  node_list (Fixed span first) = listed span
  node_list (Leaf l) = g.leaf_list l.value
  node_list (One' sweep h p inner) = still sweep (node_list inner) []
  node_list (Two' sweep op p left right) = still sweep (node_list left) (node_list right)

  -- the normal list that the tree had to hand out at first, whatever of it was handed out since
  abbrev pub node_whole : Node L → List Interval
  node_whole (Fixed span first) = listed first
  node_whole (Leaf l) = g.leaf_whole l.value
  node_whole (One' sweep h p inner) = combine Minus (whole h ∷ []) (node_whole inner)
  node_whole (Two' sweep op p left right) = combine op (node_whole left) (node_whole right)

  -- nothing was handed out, unless the tree was moved
  abbrev pub IsStill : Bool → Node L → Type 0
  IsStill moved node = IsFalse moved → node_list node ≡ node_whole node

  -- each sweep may be in its state, by what its sides still have to hand out
  abbrev pub IsSoundNode : Node L → Type 0
  IsSoundNode (Fixed span first) = IsSingle span × IsSingle first
  IsSoundNode (Leaf l) = Unit {0}
  IsSoundNode (One' sweep h p inner) = HasOneSide sweep × Fits sweep (node_list inner) [] × IsSoundNode inner
  IsSoundNode (Two' sweep op p left right) =
      Fits sweep (node_list left) (node_list right) × IsSoundNode left × IsSoundNode right

  -- the shape of the tree
  abbrev pub node_shape : Node L → Shape
  node_shape (Fixed span first) = fixed
  node_shape (Leaf l) = leaf_shape (g.leaf_size l.value)
  node_shape (One' sweep h p inner) = one (node_shape inner)
  node_shape (Two' sweep op p left right) = two (node_shape left) (node_shape right)

  -- how many nodes the tree has; how many the longest way down has; the sum of the work of its leaves; how many periods they keep
  abbrev pub node_count : Node L → ℕ
  node_count node = shape_nodes (node_shape node)

  abbrev pub node_height : Node L → ℕ
  node_height node = shape_height (node_shape node)

  abbrev pub node_work : Node L → ℕ
  node_work node = shape_work (node_shape node)

  abbrev pub node_periods : Node L → ℕ
  node_periods node = shape_periods (node_shape node)

  -- how many parts it has, where a leaf is one
  abbrev pub node_parts : Node L → ℕ
  node_parts node = shape_parts (node_shape node)

  -- the sum of the ticks of its leaves
  abbrev pub node_ticks : Node L → ℕ
  node_ticks (Fixed span first) = 0
  node_ticks (Leaf l) = g.leaf_ticks l.value
  node_ticks (One' sweep h p inner) = node_ticks inner
  node_ticks (Two' sweep op p left right) = node_ticks left + node_ticks right

  -- how many spans its leaves keep of their periods, and of those that they handed out before
  abbrev pub node_kept : Node L → ℕ
  node_kept (Fixed span first) = 0
  node_kept (Leaf l) = g.leaf_kept l.value
  node_kept (One' sweep h p inner) = node_kept inner
  node_kept (Two' sweep op p left right) = node_kept left + node_kept right

  abbrev pub node_told : Node L → ℕ
  node_told (Fixed span first) = 0
  node_told (Leaf l) = g.leaf_told l.value
  node_told (One' sweep h p inner) = node_told inner
  node_told (Two' sweep op p left right) = node_told left + node_told right
