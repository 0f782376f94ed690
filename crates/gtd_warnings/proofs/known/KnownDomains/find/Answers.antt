-- The known domain and the one that is asked for have one tree, and the days are the same.
use Rattle.std.proofs.Common.{◌≡◌, ◌∙◌, sym, subst, Option}
use Rattle.gtd_core.specs.Parts.{domain_tree}
use Rattle.gtd_core.specs.Trees.{Tree}
use Rattle.gtd_core.specs.declared.horizon.Horizon.{Horizon}
use Rattle.gtd_core.specs.facts.EqualTrees.{tree_equal}
use Rattle.gtd_warnings.specs.Whole.{AreOfWhole}
use Rattle.gtd_warnings.proofs.known.KnownDomains.find.Goals as goal

pub returns-then-are_same : goal.returns-then-are_same
returns-then-are_same c =
    let known = c.known.inside in
    let tree : domain_tree known.domain ≡ domain_tree c.args.domain.now = tree_equal _ _ (sym c.eq.ensures ∙ c.if-eq.true) in
    let days : known.days ≡ c.args.days = c.are_same.ensures c.if-are_same.true in
    subst (λ (d : Option Horizon). AreOfWhole d (domain_tree c.args.domain.now) known.rules) days
    (subst (λ (t : Tree). AreOfWhole known.days t known.rules) tree c.known.invariant)
