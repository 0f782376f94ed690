-- A domain's tree is valid and has few leaves, so what holds for canonical texts of valid trees holds for it;
-- equal trees have one canonical text, and one canonical text stands for one tree.
use Rattle.std.proofs.Common.{ap}
use Rattle.gtd_core.specs.Trees.{Tree}
use Rattle.gtd_core.specs.Parts.{domain_tree}
use Rattle.gtd_text.specs.Canonical.{canonical}
use Rattle.gtd_text.proofs.CanonicalLaws.{canonical_only, one_text}
use Rattle.gtd_text.specs.facts.CanonicalText.{canonical_stands}
use Rattle.gtd_text.specs.facts.Faultless.{canonical_faultless}
use Rattle.gtd_text.proofs.laws.canonical_text_of_domain.Goals as goal

pub returns-clause-stands : goal.returns-clause-stands
returns-clause-stands c domain = canonical_stands (domain_tree domain) (c.leaves_are_valid.ensures.valid domain.expr)

pub returns-clause-only : goal.returns-clause-only
returns-clause-only c domain e stand = canonical_only (domain_tree domain) e (c.leaves_are_valid.ensures.valid domain.expr) stand

pub returns-clause-faultless : goal.returns-clause-faultless
returns-clause-faultless c domain = canonical_faultless (domain_tree domain)
    (c.leaves_are_valid.ensures.valid domain.expr) domain.few_leaves

pub returns-clause-one_text : goal.returns-clause-one_text
returns-clause-one_text c a b = (
  λ same. ap (λ (e : Tree). canonical e) ((c.equality_of_trees.ensures.same (domain_tree a) (domain_tree b)).0 same),
  λ same. (c.equality_of_trees.ensures.same (domain_tree a) (domain_tree b)).1
      (one_text (domain_tree a) (domain_tree b) (c.leaves_are_valid.ensures.valid a.expr)
      (c.leaves_are_valid.ensures.valid b.expr) same),
)
