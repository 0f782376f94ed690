-- The rows of an element add no fault, and its fault adds no row.
use Rattle.std.proofs.Common.{◌≡◌, ◌∙◌, ap, subst, sym, append-nil, List}
use Rattle.std.specs.Prelude.{Err}
use Rattle.gtd_conditional_steps.specs.declared.tag.Tag.{Tag}
use Rattle.gtd_conditional_elements.specs.Elements.{AreElementRows, NeedTooMany, last_row, tags_of}
use Rattle.gtd_conditional_elements.specs.declared.fault.ConditionsFault.TheVariants as fault
use Rattle.gtd_conditional_elements.proofs.ElementFacts.{rows_added}
use Rattle.gtd_conditional_elements.proofs.found.add_element.Goals as goal

pub returns-in-Ok : goal.returns-in-Ok
returns-in-Ok c =
    let means = c.args.means.now.rows.items in
    let rows = c.in-Ok.rows.items in
    let same : c.in_ok-tags.tags.items ≡ tags_of c.args.group.items.items = c.in_ok-tags.ensures in
    rows_added c.put_rows.result means c.args.group rows c.args.found.now.rows.items c.put_rows.new.rows.items
    c.args.found.now.faults.items (subst (λ (tags : List Tag). AreElementRows means tags rows) same c.in-Ok.ensures.rows)
    c.put_rows.ensures

pub returns-in_ok-push-in-TooMany : goal.returns-in_ok-push-in-TooMany
returns-in_ok-push-in-TooMany c =
    let means = c.args.means.now.rows.items in
    let same : c.in_ok-tags.tags.items ≡ tags_of c.args.group.items.items = c.in_ok-tags.ensures in
    let many = c.in-Err.ensures.too_many (ap Err c.in-TooMany.is) in (
      Err (fault.TooMany c.last_row-row.result),
      (
        subst (λ (tags : List Tag). NeedTooMany means tags) same many,
        ap fault.TooMany (c.last_row-row.ensures ∙ ap (last_row 0) c.as_slice.ensures.value),
      ),
      sym (append-nil c.args.found.now.rows.items),
      c.in_ok-push-in-TooMany.ensures.items,
    )
