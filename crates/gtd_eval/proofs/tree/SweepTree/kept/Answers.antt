use Rattle.std.proofs.Common.{ℕ, ◌≤◌, ◌*◌, arith}
use Rattle.gtd_core.specs.Limits.{most_nodes}
use Rattle.gtd_eval.specs.facts.NodeFacts.{node_kept-le, node_kept-by-nodes, node_told-le, node_periods-le}
use Rattle.gtd_eval.proofs.tree.SweepTree.kept.Goals as goal

-- few spans of few periods
in_all : (kept periods nodes : ℕ) → kept ≤ 4096 * periods → periods ≤ nodes → nodes ≤ most_nodes → kept ≤ 4096 * most_nodes
in_all kept periods nodes few least small = omega (arith, few, least, small)

pub returns : goal.returns
returns g c = record {
  value = c.kept.ensures.value;
  at_most = rw c.kept.ensures.value (node_kept-le g.L.Leaf g.met.L.Leaf.keeps_few c.args.self.now.node);
  by_nodes = rw c.kept.ensures.value (node_kept-by-nodes g.L.Leaf g.met.L.Leaf.keeps_by_nodes c.args.self.now.node);
  told = node_told-le g.L.Leaf g.met.L.Leaf.tells_few c.args.self.now.node;
  periods = node_periods-le g.L.Leaf g.met.L.Leaf.has_few c.args.self.now.node;
  bounded = rw c.kept.ensures.value (in_all _ _ _ (node_kept-le g.L.Leaf g.met.L.Leaf.keeps_few c.args.self.now.node)
      (node_periods-le g.L.Leaf g.met.L.Leaf.has_few c.args.self.now.node) c.args.self.now.small);
}
