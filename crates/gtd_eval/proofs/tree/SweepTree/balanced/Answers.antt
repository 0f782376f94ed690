-- The terms of an expression, joined as a balanced chain, have its seconds, its work and a low tree.
use Rattle.std.proofs.Common.{◌≡◌, ◌∙◌, List, length, sym, ap, arith}
use Rattle.gtd_core.specs.Trees.{tree_of}
use Rattle.gtd_core.specs.Whole.{whole}
use Rattle.gtd_core.specs.declared.domain.Op.TheVariants.{Union}
use Rattle.gtd_spans.specs.facts.NormalFor.{normal-for}
use Rattle.gtd_eval.specs.Chains.{AreTerms}
use Rattle.gtd_eval.specs.Exprs.{expr_work}
use Rattle.gtd_eval.specs.Membership.{InTree}
use Rattle.gtd_eval.specs.declared.tree.SweepTree.{SweepTree}
use Rattle.gtd_eval.specs.facts.NodeFacts.{node_list-normal}
use Rattle.gtd_eval.proofs.Unions.{chain-of-terms, chain-in, chain-nodes, union-low, count-of-terms, terms-start}
use Rattle.gtd_eval.proofs.tree.SweepTree.balanced.Goals as goal

pub returns : goal.returns
returns g c =
    let given : AreTerms Union (tree_of c.args.expr.now) c.args.horizon (expr_work c.args.expr.now c.args.horizon)
    c.in_ok-cursors.cursors.items c.push_terms.new.cursors.items = c.in_ok-push_terms.ensures.terms in
    let none : 0 ≡ length c.in_ok-cursors.cursors.items =
    sym (ap (λ (l : List (SweepTree g.row.L.Denot g.L.Leaf)). length l) c.in_ok-cursors.ensures.items) in
    let rest = count-of-terms _ _ _ _ _ _ c.len-count.result 0 given (omega (arith, c.len-count.ensures)) none in
    let many : c.len-count.result ≡ length given.terms = omega (arith, rest) in
    let chain = (chain-of-terms Union (tree_of c.args.expr.now) c.args.horizon _ c.len-count.result _ _ _ c.in_ok-node.node
    given many c.in_ok-node.ensures.chain).1 in
    record {
      whole = record {
        normal = normal-for (InTree (tree_of c.args.expr.now)) (whole c.args.horizon).from (whole c.args.horizon).until _
            (node_list-normal g.L.Leaf g.met.L.Leaf.is_normal c.in_ok-node.node chain.sound) (chain-in _ _ _ _ _ _ _ given chain);
        nodes = chain-nodes _ _ _ _ _ _ _ given chain;
        work = chain.work ∙ given.total;
        height = union-low _ _ _ _ _ _ given chain;
      };
      start = terms-start _ _ _ _ _ _ _ given chain;
    }
