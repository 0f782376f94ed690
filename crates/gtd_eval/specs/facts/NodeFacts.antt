-- Facts about trees of sweeps.
use Rattle.std.proofs.Common.{◌+◌, ◌*◌, ◌≤◌, arith}
use Rattle.std.proofs.Props.{props}
use Rattle.std.specs.Prelude.{[], Bool}
use Rattle.gtd_spans.specs.Normal.{IsNormal}
use Rattle.gtd_spans.specs.facts.Combining.{combine-normal}
use Rattle.gtd_spans.specs.facts.SweepFacts.{still-normal, Fits-prop, HasOneSide-prop}
use Rattle.gtd_eval.specs.Nodes.{node_list, node_whole, node_count, node_work, node_periods, node_kept, node_told}
use Rattle.gtd_eval.specs.Nodes.{IsSoundNode, IsStill}
use Rattle.gtd_eval.specs.facts.SingleFacts.{IsSingle-prop, listed-normal}
use Rattle.gtd_eval.specs.declared.leaf.Leaf.{Ghosts}
use Rattle.gtd_eval.specs.declared.node.Node.{Node}
use Rattle.gtd_eval.specs.declared.node.Node.TheVariants.{Fixed, Leaf, One', Two'}

module _ {L : Type 0} (g : Ghosts L) where
  pub node_list-normal : ((l : L) → IsNormal (g.leaf_list l)) → (n : Node L) → IsSoundNode g n → IsNormal (node_list g n)
  node_list-normal k (Fixed span first) h = listed-normal span h.0
  node_list-normal k (Leaf l) h = k l.value
  node_list-normal k (One' s o p inner) h = still-normal s _ _
  node_list-normal k (Two' s o p left right) h = still-normal s _ _

  pub node_whole-normal : ((l : L) → IsNormal (g.leaf_whole l)) → (n : Node L) → IsSoundNode g n → IsNormal (node_whole g n)
  node_whole-normal k (Fixed span first) h = listed-normal first h.1
  node_whole-normal k (Leaf l) h = k l.value
  node_whole-normal k (One' s o p inner) h = combine-normal _ _ _
  node_whole-normal k (Two' s o p left right) h = combine-normal _ _ _

  pub IsStill-prop : (moved : Bool) (n : Node L) → IsProp (IsStill g moved n)
  IsStill-prop moved n = hlevel props

  pub IsSoundNode-prop : (n : Node L) → IsProp (IsSoundNode g n)
  IsSoundNode-prop (Fixed span first) = hlevel (props, IsSingle-prop span, IsSingle-prop first)
  IsSoundNode-prop (Leaf l) = hlevel props
  IsSoundNode-prop (One' s o p inner) =
      hlevel (props, HasOneSide-prop s, Fits-prop s (node_list g inner) [], IsSoundNode-prop inner)
  IsSoundNode-prop (Two' s o p left right) =
      hlevel (
        props,
        Fits-prop s (node_list g left) (node_list g right),
        IsSoundNode-prop left,
        IsSoundNode-prop right,
      )

  -- the work of a tree of few nodes is small
  pub node_work-le : ((l : L) → (g.leaf_size l).work ≤ 20000000000 * (g.leaf_size l).nodes) → (n : Node L)
      → node_work g n ≤ 20000000000 * node_count g n
  node_work-le small (Fixed span first) = omega arith
  node_work-le small (Leaf l) = small l.value
  node_work-le small (One' s o p inner) = omega (arith, node_work-le small inner)
  node_work-le small (Two' s o p left right) = omega (arith, node_work-le small left, node_work-le small right)

  -- of each period few spans are kept
  pub node_kept-le : ((l : L) → g.leaf_kept l ≤ 4096 * (g.leaf_size l).periods) → (n : Node L)
      → node_kept g n ≤ 4096 * node_periods g n
  node_kept-le few (Fixed span first) = omega arith
  node_kept-le few (Leaf l) = few l.value
  node_kept-le few (One' s o p inner) = node_kept-le few inner
  node_kept-le few (Two' s o p left right) = omega (arith, node_kept-le few left, node_kept-le few right)

  -- for each node few spans are kept, and of those that were handed out not many more
  pub node_kept-by-nodes : ((l : L) → g.leaf_kept l ≤ 16 * ((g.leaf_size l).nodes + 1)) → (n : Node L)
      → node_kept g n ≤ 16 * (node_count g n + 1)
  node_kept-by-nodes few (Fixed span first) = omega arith
  node_kept-by-nodes few (Leaf l) = few l.value
  node_kept-by-nodes few (One' s o p inner) = omega (arith, node_kept-by-nodes few inner)
  node_kept-by-nodes few (Two' s o p left right) = omega (arith, node_kept-by-nodes few left, node_kept-by-nodes few right)

  pub node_told-le : ((l : L) → g.leaf_told l ≤ 16 * ((g.leaf_size l).nodes + 1) + 2 * (g.leaf_size l).periods) → (n : Node L)
      → node_told g n ≤ 16 * (node_count g n + 1) + 2 * node_periods g n
  node_told-le few (Fixed span first) = omega arith
  node_told-le few (Leaf l) = few l.value
  node_told-le few (One' s o p inner) = omega (arith, node_told-le few inner)
  node_told-le few (Two' s o p left right) = omega (arith, node_told-le few left, node_told-le few right)

  -- a tree has no more periods than nodes
  pub node_periods-le : ((l : L) → (g.leaf_size l).periods ≤ (g.leaf_size l).nodes) → (n : Node L)
      → node_periods g n ≤ node_count g n
  node_periods-le few (Fixed span first) = omega arith
  node_periods-le few (Leaf l) = few l.value
  node_periods-le few (One' s o p inner) = omega (arith, node_periods-le few inner)
  node_periods-le few (Two' s o p left right) = omega (arith, node_periods-le few left, node_periods-le few right)

  -- a tree has a node
  pub node_count-some : ((l : L) → 1 ≤ (g.leaf_size l).nodes) → (n : Node L) → 1 ≤ node_count g n
  node_count-some some (Fixed span first) = omega arith
  node_count-some some (Leaf l) = some l.value
  node_count-some some (One' s o p inner) = omega arith
  node_count-some some (Two' s o p left right) = omega arith
