-- Facts about cursors, and lists of cursors.
use Rattle.std.proofs.Common.{◌≡◌, ◌⊎◌, ◌↔◌, ℕ, ◌+◌, ◌*◌, ◌≤◌, List, [], ◌∷◌, ◌++◌, inl, inr, arith}
use Rattle.std.specs.Prelude.{ℤ}
use Rattle.gtd_spans.specs.Normal.{IsNormal}
use Rattle.gtd_eval.specs.Cursors.{cursor_list, cursor_whole, cursor_nodes, cursor_work}
use Rattle.gtd_eval.specs.Cursors.{SomeHolds, AllAtStart, total_nodes, total_work, NoneHigher}
use Rattle.gtd_eval.specs.facts.NodeFacts.{node_list-normal, node_whole-normal, node_work-le, node_count-some}
use Rattle.gtd_eval.specs.declared.leaf.Leaf.{Ghosts}
use Rattle.gtd_eval.specs.declared.tree.SweepTree.{SweepTree}

module _ {L : Type 0} {g : Ghosts L} where
  pub cursor-normal : ((l : L) → IsNormal (g.leaf_list l)) → (c : SweepTree L g) → IsNormal (cursor_list c)
  cursor-normal k c = node_list-normal g k c.node c.sound

  pub whole-normal : ((l : L) → IsNormal (g.leaf_whole l)) → (c : SweepTree L g) → IsNormal (cursor_whole c)
  whole-normal k c = node_whole-normal g k c.node c.sound

  pub cursor-small : ((l : L) → (g.leaf_size l).work ≤ 20000000000 * (g.leaf_size l).nodes) → (c : SweepTree L g)
      → cursor_work c ≤ 20000000000 * cursor_nodes c
  cursor-small small c = node_work-le g small c.node

  pub cursor-some : ((l : L) → 1 ≤ (g.leaf_size l).nodes) → (c : SweepTree L g) → 1 ≤ cursor_nodes c
  cursor-some some c = node_count-some g some c.node

  pub some-append : (ls rs : List (SweepTree L g)) (t : ℤ) → SomeHolds (ls ++ rs) t ↔ (SomeHolds ls t ⊎ SomeHolds rs t)
  some-append [] rs t = ((λ h. inr h), (λ h. elim h [ inl z ↦ absurd z | inr k ↦ k ]))
  some-append (a ∷ ls) rs t = let i = some-append ls rs t in (
    (λ h. elim h [ inl x ↦ inl (inl x) | inr r ↦ elim (i.0 r) [ inl y ↦ inl (inr y) | inr z ↦ inr z ] ]),
    (λ h. elim h [ inl x ↦ elim x [ inl y ↦ inl y | inr z ↦ inr (i.1 (inl z)) ] | inr r ↦ inr (i.1 (inr r)) ]),
  )

  pub nodes-append : (ls rs : List (SweepTree L g)) → total_nodes (ls ++ rs) ≡ total_nodes ls + total_nodes rs
  nodes-append [] rs = omega arith
  nodes-append (a ∷ ls) rs = omega (arith, nodes-append ls rs)

  pub work-append : (ls rs : List (SweepTree L g)) → total_work (ls ++ rs) ≡ total_work ls + total_work rs
  work-append [] rs = omega arith
  work-append (a ∷ ls) rs = omega (arith, work-append ls rs)

  pub higher-append : (h : ℕ) (ls rs : List (SweepTree L g)) → NoneHigher h (ls ++ rs) → NoneHigher h ls × NoneHigher h rs
  higher-append h [] rs n = (tt, n)
  higher-append h (a ∷ ls) rs n = let i = higher-append h ls rs n.1 in ((n.0, i.0), i.1)

  pub start-append : (ls rs : List (SweepTree L g)) → AllAtStart ls → AllAtStart rs → AllAtStart (ls ++ rs)
  start-append [] rs l r = r
  start-append (a ∷ ls) rs l r = (l.0, start-append ls rs l.1 r)
