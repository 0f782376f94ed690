-- Steps of both directions make the rows, which close as they do.
use Rattle.gtd_conditional_elements.proofs.ElementFacts.{need_too_many, rows_made}
use Rattle.gtd_conditional_elements.proofs.element.rows_by_each.Goals as goal

pub returns : goal.returns
returns c =
    let forward = c.in-Ok.ensures in
    let backward = c.in-Ok-steps_of.ensures in
    let made = c.rows_of.ensures in
    record {
      rows = rows_made c.rows_of.result (λ found. found.items) c.args.means.now.rows.items c.args.subject
          c.args.tags.now.tags.items c.in-Ok.steps.items c.in-Ok-steps_of.steps.items forward.steps backward.steps made.rows
          made.closed forward.closed backward.closed;
      too_many = λ is. need_too_many c.args.means.now.rows.items c.args.subject c.args.tags.now.tags.items c.in-Ok.steps.items
          c.in-Ok-steps_of.steps.items forward.steps backward.steps (made.too_many.0 is);
    }
