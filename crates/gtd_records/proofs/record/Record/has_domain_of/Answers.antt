-- Domains that compare equal have the same tree.
use Rattle.std.proofs.Common.{◌≡◌, ◌∙◌, ap, sym}
use Rattle.std.specs.Prelude.{Some}
use Rattle.gtd_core.specs.Parts.{domain_tree}
use Rattle.gtd_core.specs.Trees.{Tree}
use Rattle.gtd_core.specs.facts.EqualTrees.{tree_equal}
use Rattle.gtd_records.proofs.record.Record.has_domain_of.Goals as goal

pub returns-in-Some-domain : goal.returns-in-Some-domain
returns-in-Some-domain c = λ t.
    let same : Some (domain_tree c.in-Some.domain.now) ≡ Some (domain_tree c.in-Some-domain.other.now) =
    ap (λ (x : Tree). Some x) (tree_equal _ _ (sym c.eq.ensures ∙ t)) in
    sym (rw c.in-Some.is at c.domain.ensures.domain) ∙ same ∙ rw c.in-Some-domain.is at c.domain-in-Some.ensures.domain
