-- The terms at the end of the list, joined to one chain, stand for the expression that they came from.
use Rattle.std.proofs.Common.{◌∙◌, arith}
use Rattle.gtd_eval.proofs.Unions.{chain-of-terms, chain-in, chain-low, one-term, chain-nodes, terms-start}
use Rattle.gtd_eval.proofs.tree.SweepTree.push_chain.Goals as goal

pub invariant_of-push : goal.invariant_of-push
invariant_of-push g c =
    let given = c.requires.chain in
    let node = (chain-of-terms c.args.inner _ c.args._horizon _ c.args.count _ _ _ c.in_ok-node.node given.1 given.2
    c.in_ok-node.ensures.chain).1 in
    record {
      still = λ f. terms-start _ _ _ _ _ _ _ given.1 node;
      sound = node.sound;
      small = omega (arith, chain-nodes _ _ _ _ _ _ _ given.1 node, c.requires.few);
    }

pub returns : goal.returns
returns g c = record {
  term = λ op other before given many.
      let chain = chain-of-terms c.args.inner _ c.args._horizon _ c.args.count _ _ _ c.in_ok-node.node given many
      c.in_ok-node.ensures.chain in
      let node = chain.1 in
      one-term op _ _ _ _ _ _ _ chain.0 c.in_ok-push.ensures.items (chain-in _ _ _ _ _ _ _ given node)
      (chain-nodes _ _ _ _ _ _ _ given node) (node.work ∙ given.total) (λ b. absurd (other b.0))
      (chain-low _ _ _ _ _ _ _ _ given node) (terms-start _ _ _ _ _ _ _ given node);
}
