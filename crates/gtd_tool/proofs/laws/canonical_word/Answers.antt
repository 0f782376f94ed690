-- The canonical text stands for its domain without fault, so as a word it asks for that domain.
use Rattle.std.proofs.Common.{refl, sym, subst, Option}
use Rattle.gtd_core.specs.Parts.{domain_tree}
use Rattle.gtd_tool.specs.Asked.{Canon, Check}
use Rattle.gtd_tool.specs.Readings.{Gives, Reading}
use Rattle.gtd_tool.proofs.LawLemmas.{check_canonical, canon_canonical}
use Rattle.gtd_tool.proofs.laws.canonical_word.Goals as goal

pub returns-clause-check : goal.returns-clause-check
returns-clause-check c = λ domain.
    subst (λ (reading : Option Reading). Gives reading (Check (domain_tree domain)))
    (sym (check_canonical (domain_tree domain))) (
      domain_tree domain,
      record {
        stands = c.canonical_text_of_domain.ensures.stands domain;
        faultless = c.canonical_text_of_domain.ensures.faultless domain;
      },
      refl,
    )

pub returns-clause-canon : goal.returns-clause-canon
returns-clause-canon c = λ domain.
    subst (λ (reading : Option Reading). Gives reading (Canon (domain_tree domain)))
    (sym (canon_canonical (domain_tree domain))) (
      domain_tree domain,
      record {
        stands = c.canonical_text_of_domain.ensures.stands domain;
        faultless = c.canonical_text_of_domain.ensures.faultless domain;
      },
      refl,
    )
