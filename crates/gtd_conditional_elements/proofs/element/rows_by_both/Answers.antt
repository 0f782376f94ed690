-- The steps of one direction are those of the other.
use Rattle.std.proofs.Common.{inl}
use Rattle.gtd_conditional_elements.proofs.ElementFacts.{both_made, need_too_many}
use Rattle.gtd_conditional_elements.proofs.element.rows_by_both.Goals as goal

pub returns-in-Ok : goal.returns-in-Ok
returns-in-Ok c =
    let forward = c.in-Ok.ensures in
    let backward = c.requires.steps c.in-Ok.steps.items forward.steps in
    let made = c.rows_of_both.ensures in
    record {
      rows = both_made c.rows_of_both.result (λ found. found.items) c.args.means.now.rows.items c.args.subject
          c.args.tags.now.tags.items c.in-Ok.steps.items forward.steps backward made.rows made.closed forward.closed
          c.requires.closed;
      too_many = λ is. need_too_many c.args.means.now.rows.items c.args.subject c.args.tags.now.tags.items c.in-Ok.steps.items
          c.in-Ok.steps.items forward.steps backward (inl (made.too_many.0 is));
    }
