-- The mark of a kind changes nothing, `closed` is kept in the draft, and a part that begins a rule does not come here.
use Rattle.std.proofs.Common.{rules, ◌≡◌, subst}
use Rattle.gtd_hours_parts.specs.Values.{IsPartOf}
use Rattle.gtd_hours_parts.specs.declared.part.Part.{Part}
use Rattle.gtd_hours_parts.specs.declared.part.Part.TheVariants as part
use Rattle.gtd_hours_text.proofs.AddingLemmas.{closed_part, kind_part, never_rule}
use Rattle.gtd_hours_text.proofs.additions.with_part.Goals as goal

pub returns-in-Rule : goal.returns-in-Rule
returns-in-Rule c =
    let same : c.args.part ≡ part.Rule c.in-Rule.field-0 = search rules in
    λ y is inside. absurd (never_rule c.in-Rule.field-0 y (subst (λ (x : Part). IsPartOf x y) same is) inside)

pub returns-in-Kind : goal.returns-in-Kind
returns-in-Kind c =
    let same : c.args.part ≡ part.Kind = search rules in
    λ y is inside. kind_part c.args.draft y (subst (λ (x : Part). IsPartOf x y) same is)

pub returns-in-Closed : goal.returns-in-Closed
returns-in-Closed c =
    let same : c.args.part ≡ part.Closed = search rules in
    λ y is inside. closed_part c.args.draft y (subst (λ (x : Part). IsPartOf x y) same is)
