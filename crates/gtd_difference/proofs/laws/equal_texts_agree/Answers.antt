-- A canonical text stands for one tree only, so equal texts mean equal trees and equal seconds.
use Rattle.std.proofs.Common.{◌≡◌, List, ℕ, sym, subst}
use Rattle.gtd_core.specs.Parts.{domain_tree}
use Rattle.gtd_core.specs.Trees.{Tree}
use Rattle.gtd_eval.specs.Membership.{InTree}
use Rattle.gtd_text.specs.Reading.{StandsFor}
use Rattle.gtd_difference.proofs.laws.equal_texts_agree.Goals as goal

pub returns : goal.returns
returns c = record {
  agree = λ a b same t.
      let law = c.canonical_text_of_domain.ensures in
      let stands = subst (λ (text : List ℕ). StandsFor text (domain_tree a)) same (law.stands a) in
      let e : domain_tree a ≡ domain_tree b = law.only b (domain_tree a) stands in (
        (λ h. subst (λ (tree : Tree). InTree tree t) e h),
        (λ h. subst (λ (tree : Tree). InTree tree t) (sym e) h),
      );
}
