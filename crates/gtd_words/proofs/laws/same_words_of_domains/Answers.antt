-- Domains have valid trees, so their words tell them apart exactly as comparing them does.
use Rattle.std.proofs.Common.{ap}
use Rattle.gtd_core.specs.Parts.{domain_tree}
use Rattle.gtd_core.specs.Trees.{Tree}
use Rattle.gtd_words.specs.Words.{words_in}
use Rattle.gtd_words.proofs.laws.same_words_of_domains.Goals as goal

pub returns : goal.returns
returns c = record {
  same = λ l a b. (
    λ same. ap (λ (e : Tree). words_in l e) ((c.equality_of_trees.ensures.same (domain_tree a) (domain_tree b)).0 same),
    λ same. (c.equality_of_trees.ensures.same (domain_tree a) (domain_tree b)).1
        (c.same_words.ensures.same l (domain_tree a) (domain_tree b) (c.leaves_are_valid.ensures.valid a.expr)
        (c.leaves_are_valid.ensures.valid b.expr) same),
  );
}
