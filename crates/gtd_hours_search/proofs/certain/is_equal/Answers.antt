-- Equal domains are the same tree, so they have the same seconds.
use Rattle.std.proofs.Common.{◌≡◌, ◌∙◌, sym}
use Rattle.gtd_core.specs.Parts.{domain_tree}
use Rattle.gtd_core.specs.facts.EqualTrees.{tree_equal}
use Rattle.gtd_hours_search.proofs.certain.is_equal.Goals as goal

pub returns : goal.returns
returns c h =
    let domain = c.args.domain.now in
    let other = c.args.other.now in
    let same : domain_tree domain ≡ domain_tree other =
    tree_equal (domain_tree domain) (domain_tree other) (sym c.eq.ensures ∙ h) in
    λ s. rw same (λ x. x, λ x. x)
