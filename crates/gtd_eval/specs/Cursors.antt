-- What a cursor still has to hand out, and how large its tree is.
use Rattle.std.specs.Prelude.{◌≡◌, ℕ, ◌+◌, ◌≤◌, ◌⊎◌, ℤ, List, [], ◌∷◌}
use Rattle.gtd_core.specs.Seconds.{Interval}
use Rattle.gtd_core.specs.Parts.{domain_expr}
use Rattle.gtd_core.specs.declared.domain.Domain.{Domain}
use Rattle.gtd_core.specs.declared.horizon.Horizon.{Horizon}
use Rattle.gtd_spans.specs.Normal.{Holds}
use Rattle.gtd_eval.specs.Exprs.{expr_work}
use Rattle.gtd_eval.specs.Nodes.{node_list, node_whole, node_count, node_ticks, node_height, node_work, node_periods, node_kept}
use Rattle.gtd_eval.specs.Nodes.{node_told}
use Rattle.gtd_eval.specs.Shape.{Size}
use Rattle.gtd_eval.specs.declared.leaf.Leaf.{Ghosts}
use Rattle.gtd_eval.specs.declared.tree.SweepTree.{SweepTree}

-- the sum of the work of a domain's basic domains in a horizon
abbrev pub domain_work : Domain → Horizon → ℕ
domain_work domain = expr_work (domain_expr domain)

module _ {L : Type 0} {g : Ghosts L} where
  -- the normal list that the cursor still has to hand out
  abbrev pub cursor_list : SweepTree L g → List Interval
  cursor_list cursor = node_list g cursor.node

  -- the normal list that the cursor had to hand out at first, whatever of it was handed out since
  abbrev pub cursor_whole : SweepTree L g → List Interval
  cursor_whole cursor = node_whole g cursor.node

  -- the cursor still has its whole list to hand out
  abbrev pub IsAtStart : SweepTree L g → Type 0
  IsAtStart cursor = cursor_list cursor ≡ cursor_whole cursor

  -- how many nodes its tree has
  abbrev pub cursor_nodes : SweepTree L g → ℕ
  cursor_nodes cursor = node_count g cursor.node

  -- how many nodes the longest way down its tree has
  abbrev pub cursor_height : SweepTree L g → ℕ
  cursor_height cursor = node_height g cursor.node

  -- the sum of the ticks of its runs: the days that they looked at, and the starts that they took
  abbrev pub cursor_ticks : SweepTree L g → ℕ
  cursor_ticks cursor = node_ticks g cursor.node

  -- the sum of the work of its runs: the days that they may look at, and the starts that they may take
  abbrev pub cursor_work : SweepTree L g → ℕ
  cursor_work cursor = node_work g cursor.node

  -- how many periods it keeps the spans of, and how many spans it keeps of these, and of those that it handed out before
  abbrev pub cursor_periods : SweepTree L g → ℕ
  cursor_periods cursor = node_periods g cursor.node

  abbrev pub cursor_kept : SweepTree L g → ℕ
  cursor_kept cursor = node_kept g cursor.node

  abbrev pub cursor_told : SweepTree L g → ℕ
  cursor_told cursor = node_told g cursor.node

  -- how large it is
  abbrev pub cursor_size : SweepTree L g → Size
  cursor_size cursor = record {
    nodes = cursor_nodes cursor;
    height = cursor_height cursor;
    work = cursor_work cursor;
    periods = cursor_periods cursor;
  }

  -- some cursor still has the second to hand out
  abbrev pub SomeHolds : List (SweepTree L g) → ℤ → Type 0
  SomeHolds [] t = ⊥
  SomeHolds (c ∷ cs) t = Holds (cursor_list c) t ⊎ SomeHolds cs t

  -- each of the cursors still has its whole list to hand out
  abbrev pub AllAtStart : List (SweepTree L g) → Type 0
  AllAtStart [] = Unit {0}
  AllAtStart (c ∷ cs) = IsAtStart c × AllAtStart cs

  -- how many nodes the trees of the cursors have together
  abbrev pub total_nodes : List (SweepTree L g) → ℕ
  total_nodes [] = 0
  total_nodes (c ∷ cs) = cursor_nodes c + total_nodes cs

  -- the sum of the work of the cursors
  abbrev pub total_work : List (SweepTree L g) → ℕ
  total_work [] = 0
  total_work (c ∷ cs) = cursor_work c + total_work cs

  -- no tree of the cursors is higher than h
  abbrev pub NoneHigher : ℕ → List (SweepTree L g) → Type 0
  NoneHigher h [] = Unit {0}
  NoneHigher h (c ∷ cs) = (cursor_height c ≤ h) × NoneHigher h cs
