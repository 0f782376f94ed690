-- The table has the condition or not.
use Rattle.std.proofs.Common.{◌∙◌, sym, refl}
use Rattle.gtd_conditional_values.proofs.TermFacts.{known, unknown}
use Rattle.gtd_conditional_values.specs.declared.term.Term.TheVariants.{Named}
use Rattle.gtd_conditional_values.proofs.term.named.Goals as goal

pub returns-then-not-has_condition : goal.returns-then-not-has_condition
returns-then-not-has_condition c =
    unknown c.args.means.now.rows.items c.args.place c.args.name.items
    (sym (rw c.as_slice.ensures.value at c.has_condition.ensures) ∙ c.if-not-has_condition.true)

pub returns : goal.returns
returns c =
    known c.args.means.now.rows.items c.args.place c.args.name.items (Named c.args.name)
    (sym (rw c.as_slice.ensures.value at c.has_condition.ensures) ∙ c.if-not-has_condition.false) refl
