-- The tag is of the key, or adds nothing.
use Rattle.std.proofs.Common.{◌∙◌, subst, sym, Bool, [], OnOk, if◌then◌else◌}
use Rattle.gtd_conditional_steps.specs.Sayings.{said_by_parts}
use Rattle.gtd_conditional_steps.specs.Steps.{Adds}
use Rattle.gtd_conditional_steps.proofs.StepLemmas.{none}
use Rattle.gtd_conditional_steps.proofs.steps.push_tag.Goals as goal

pub returns-then-not-is_of_key : goal.returns-then-not-is_of_key
returns-then-not-is_of_key c =
    let rows = c.args.asked.means.now.rows.items in
    let said = said_by_parts c.args.types.now c.args.tag.now.value.parts.items in
    subst
    (λ (b : Bool). Adds rows c.args.asked.direction (if b then said else []) c.args.steps.now.items c.args.steps.now.items)
    (sym (sym c.is_of_key.ensures ∙ c.if-not-is_of_key.true)) (none rows c.args.asked.direction c.args.steps.now.items)

pub returns : goal.returns
returns c =
    let rows = c.args.asked.means.now.rows.items in
    let said = said_by_parts c.args.types.now c.args.tag.now.value.parts.items in
    subst
    (λ (b : Bool). OnOk c.push_parts.result
    (Adds rows c.args.asked.direction (if b then said else []) c.args.steps.now.items c.push_parts.new.steps.items))
    (sym (sym c.is_of_key.ensures ∙ c.if-not-is_of_key.false))
    (rw c.as_slice.ensures.value at c.push_parts.ensures)
