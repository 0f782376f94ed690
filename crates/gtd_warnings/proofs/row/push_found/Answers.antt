-- The rule that was found is told once, unless it is turned off.
use Rattle.std.proofs.Common.{◌≡◌, sym, refl, inl, inr, subst, [], ◌∷◌, append-nil, Option, Some, Contains}
use Rattle.gtd_core.specs.Parts.{domain_tree}
use Rattle.gtd_mistakes.specs.declared.rule.Rule.{Rule}
use Rattle.gtd_mistakes.specs.Told.{told_at}
use Rattle.gtd_warnings.proofs.row.push_found.Goals as goal

same_some : (a b : Rule) → ◌≡◌ {A = Option Rule} (Some a) (Some b) → a ≡ b
same_some a b e = cc

pub returns-then-is_off : goal.returns-then-is_off
returns-then-is_off c = (
  [],
  inr (
    (λ rule is. subst (λ (r : Rule). Contains c.args.off.now r) (same_some c.in-Some.rule rule cc)
        (c.is_off.ensures.0 c.if-is_off.true)),
    refl,
  ),
  sym (append-nil c.args.told.now.items),
)

pub returns : goal.returns
returns c =
    let tree = domain_tree c.args.domain.now in
    let no = c.if-is_off.false in (
      told_at c.args.row 0 tree c.in-Some.rule ∷ [],
      inl (c.in-Some.rule, c.in-Some.is, (λ has. let yes = c.is_off.ensures.1 has in absurd cc), refl),
      rw (c.in_ok-push.ensures.items, c.first_part-part.ensures, c.expr.ensures.value) refl,
    )
