-- Domains that `==` finds to be the same have the same seconds.
use Rattle.std.proofs.Common.{◌≡◌, ◌↔◌, ◌∙◌, sym, subst}
use Rattle.gtd_core.specs.Parts.{domain_tree}
use Rattle.gtd_core.specs.Trees.{Tree}
use Rattle.gtd_core.specs.facts.EqualTrees.{tree_equal}
use Rattle.gtd_eval.specs.Membership.{InDomain, InTree}
use Rattle.gtd_difference.specs.Memory.{InForm}
use Rattle.gtd_difference.specs.declared.memory.Form.{Form}
use Rattle.gtd_difference.proofs.memory.is_repeated.Goals as goal

pub returns-in-Repeats : goal.returns-in-Repeats
returns-in-Repeats c = record {
  same = λ told t.
      let own = c.args.domain.now in
      let e : domain_tree own ≡ domain_tree c.in-Repeats.other =
      tree_equal (domain_tree own) (domain_tree c.in-Repeats.other) (sym c.eq.ensures ∙ told) in
      subst (λ (form : Form). InForm form t ↔ InDomain own t) (sym c.in-Repeats.is)
      (subst (λ (tree : Tree). InTree tree t ↔ InDomain own t) e ((λ h. h), (λ h. h)));
}
