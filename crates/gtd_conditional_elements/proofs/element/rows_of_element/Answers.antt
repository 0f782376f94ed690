-- Tags in the order of their modes say what they say in any other.
use Rattle.std.proofs.lemmas.Result.{IfOk-weaker}
use Rattle.gtd_conditional_parts.specs.declared.said.Subject.{Subject}
use Rattle.gtd_rows.specs.declared.direction.Direction.{Direction}
use Rattle.gtd_conditional_elements.proofs.ElementFacts.{same_many, same_rows}
use Rattle.gtd_conditional_elements.proofs.element.rows_of_element.Goals as goal

pub returns-in-Ok : goal.returns-in-Ok
returns-in-Ok c =
    let means = c.args.means.now.rows.items in
    let ordered = c.in-Ok.tags.tags.items in
    let said = λ (subject : Subject) (direction : Direction). c.in-Ok.ensures.said subject means direction in
    record {
      rows = IfOk-weaker c.rows_in_order.result _ _ (λ rows are. same_rows means ordered c.args.tags.items said rows.items are)
          c.rows_in_order.ensures.rows;
      too_many = λ is. same_many means ordered c.args.tags.items said c.in-Ok.ensures.many (c.rows_in_order.ensures.too_many is);
    }
