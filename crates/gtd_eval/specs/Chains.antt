-- Chains of one operator, bracketed in any way that keeps their seconds.
use Rattle.std.specs.Prelude.{◌≡◌, ℕ, ◌+◌, ◌*◌, ◌^◌, ◌<◌, ◌≤◌, ◌↔◌, ℤ, List, [], ◌∷◌, ◌++◌, length}
use Rattle.gtd_core.specs.Trees.{Tree, leaf_count}
use Rattle.gtd_core.specs.Whole.{whole}
use Rattle.gtd_core.specs.declared.domain.Op.{Op}
use Rattle.gtd_core.specs.declared.domain.Op.TheVariants.{Union, Meet, Minus}
use Rattle.gtd_core.specs.declared.horizon.Horizon.{Horizon}
use Rattle.gtd_spans.specs.Normal.{Holds, IsIn}
use Rattle.gtd_eval.specs.Exprs.{IsBasicChain}
use Rattle.gtd_eval.specs.Membership.{InTree}
use Rattle.gtd_eval.specs.Nodes.{node_list, node_whole, node_count, node_height, node_work, IsSoundNode}
use Rattle.gtd_eval.specs.Cursors.{cursor_list, SomeHolds, AllAtStart, total_nodes, total_work, NoneHigher}
use Rattle.gtd_eval.specs.declared.leaf.Leaf.{Ghosts}
use Rattle.gtd_eval.specs.declared.node.Node.{Node}
use Rattle.gtd_eval.specs.declared.tree.SweepTree.{SweepTree}

module _ {L : Type 0} {g : Ghosts L} where
  -- each cursor still has the second to hand out
  abbrev pub AllHold : List (SweepTree L g) → ℤ → Type 0
  AllHold [] t = Unit {0}
  AllHold (c ∷ cs) t = Holds (cursor_list c) t × AllHold cs t

  -- the chain of the cursors by the operator has the second: some of them, all of them, or the first and none of the others
  abbrev pub ChainHolds : Op → List (SweepTree L g) → ℤ → Type 0
  ChainHolds Union cs t = SomeHolds cs t
  ChainHolds Meet cs t = AllHold cs t
  ChainHolds Minus [] t = ⊥
  ChainHolds Minus (c ∷ cs) t = Holds (cursor_list c) t × (SomeHolds cs t → ⊥)

  -- the tree is the chain of the cursors by the operator
  pub record IsChainOf (op : Op) (cs : List (SweepTree L g)) (n : Node L) : Type 0 where
    pub sound : IsSoundNode g n
    pub seconds : (t : ℤ) → Holds (node_list g n) t ↔ ChainHolds op cs t
    pub nodes : node_count g n + 1 ≡ total_nodes cs + length cs
    pub work : node_work g n ≡ total_work cs
    pub height : (h k : ℕ) → NoneHigher h cs → length cs ≤ 2 ^ k → node_height g n ≤ h + k
    pub start : AllAtStart cs → node_list g n ≡ node_whole g n

  -- the tree is the chain of so many cursors at the end of a list, which were taken off it
  pub record IsChainOfLast (op : Op) (count : ℕ) (before : List (SweepTree L g)) (n : Node L) (after : List (SweepTree L g))
      : Type 0 where
    pub taken : List (SweepTree L g)
    pub split : before ≡ after ++ taken
    pub many : length taken ≡ count
    pub chain : IsChainOf op taken n

  -- Cursors were appended to a list. Their chain by the operator has the seconds of the expression in the horizon. Together
  -- they have that work and, with one node for each join of two, the nodes of its tree. A chain of basic domains by that
  -- operator gives one low cursor for each, and one by another operator a single cursor of a balanced tree. None of them has
  -- handed out anything.
  pub record AreTerms (op : Op) (e : Tree) (h : Horizon) (work : ℕ) (before after : List (SweepTree L g)) : Type 0 where
    pub terms : List (SweepTree L g)
    pub split : after ≡ before ++ terms
    pub some : 0 < length terms
    pub seconds : (t : ℤ) → ChainHolds op terms t ↔ IsIn (InTree e) (whole h).from (whole h).until t
    pub nodes : total_nodes terms + length terms ≡ 2 * leaf_count e
    pub total : total_work terms ≡ work
    pub low : IsBasicChain op e → NoneHigher 1 terms × (length terms ≡ leaf_count e)
    pub lone : (other : Op) (k : ℕ) → (op ≡ other → ⊥) → IsBasicChain other e → leaf_count e ≤ 2 ^ k
        → NoneHigher (1 + k) terms × (length terms ≡ 1)
    pub start : AllAtStart terms
