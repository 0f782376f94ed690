-- All cursors were taken into one chain of unions, whose height grows by one when their number doubles.
use Rattle.std.proofs.Common.{◌≡◌, ◌≤◌, ◌^◌, ◌+◌, ℕ, List, length, subst, arith}
use Rattle.std.specs.Prelude.{vec_len}
use Rattle.gtd_core.specs.declared.domain.Op.TheVariants.{Union}
use Rattle.gtd_eval.specs.Chains.{IsChainOf, IsChainOfLast}
use Rattle.gtd_eval.specs.Cursors.{AllAtStart, NoneHigher}
use Rattle.gtd_eval.specs.Nodes.{node_list, node_whole, node_height}
use Rattle.gtd_eval.specs.facts.NodeFacts.{node_list-normal}
use Rattle.gtd_eval.specs.declared.leaf.Leaf.{Ghosts}
use Rattle.gtd_eval.specs.declared.tree.SweepTree.{SweepTree}
use Rattle.gtd_eval.specs.declared.node.Node.{Node}
use Rattle.gtd_eval.proofs.Unions.{all-taken}
use Rattle.gtd_eval.proofs.tree.SweepTree.any.Goals as goal

height-of : {L : Type 0} {g : Ghosts L} (cs : List (SweepTree L g)) (n : Node L) (count : ℕ) → count ≡ length cs
    → IsChainOf Union cs n → (h k : ℕ) → NoneHigher h cs → count ≤ 2 ^ k → node_height g n ≤ h + k
height-of cs n count e u h k none le = u.height h k none (omega (arith, e, le))

pub returns-clause-height : goal.returns-clause-height
returns-clause-height g c =
    let count : vec_len c.args.cursors ≡ length c.args.cursors.items = omega arith in
    let e = c.in_ok-node.ensures.chain in
    let many : length e.taken ≡ length c.args.cursors.items = omega (arith, e.many, c.len-count.ensures) in
    let all : e.taken ≡ c.args.cursors.items = all-taken _ _ _ e.split many in
    let u : IsChainOf Union c.args.cursors.items c.in_ok-node.node =
    subst (λ (cs : List (SweepTree g.row.L.Denot g.L.Leaf)). IsChainOf Union cs c.in_ok-node.node) all e.chain in
    λ h k some none le. height-of c.args.cursors.items c.in_ok-node.node (vec_len c.args.cursors) count u h k none le

pub returns-clause-normal : goal.returns-clause-normal
returns-clause-normal g c =
    node_list-normal g.L.Leaf g.met.L.Leaf.is_normal c.in_ok-node.node c.in_ok-node.ensures.chain.chain.sound

-- all cursors still have their whole lists to hand out, and so has their union
start-of : {L : Type 0} {g : Ghosts L} (cs after : List (SweepTree L g)) (n : Node L) (count : ℕ) → count ≡ length cs
    → IsChainOfLast Union count cs n after → AllAtStart cs → node_list g n ≡ node_whole g n
start-of cs after n count many e all =
    let same : e.taken ≡ cs = all-taken _ _ _ e.split (omega (arith, e.many, many)) in
    e.chain.start (rw same all)

pub returns-clause-start : goal.returns-clause-start
returns-clause-start g c = λ all.
    start-of c.args.cursors.items _ c.in_ok-node.node c.len-count.result (omega (arith, c.len-count.ensures))
    c.in_ok-node.ensures.chain all
