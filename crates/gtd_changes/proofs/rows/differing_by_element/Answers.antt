-- What is found of the sorted rows holds of the rows as they stand in the files, since sorting only moves them.
use Rattle.std.proofs.lemmas.Result.{IfOk-weaker}
use Rattle.gtd_changes.proofs.RowFacts.{found_in}
use Rattle.gtd_changes.proofs.rows.differing_by_element.Goals as goal

pub returns-clause-old : goal.returns-clause-old
returns-clause-old c =
    IfOk-weaker c.differing_of.result _ _ (λ elements found.
    found_in c.args.old.now c.args.new.now _ _ elements.items (rw (c.rows.ensures.rows) at c.in_ok-by_element.ensures.moved)
    (rw (c.rows-2.ensures.rows) at c.in_ok-by_element-2.ensures.moved)
    found) c.differing_of.ensures.old

pub returns-clause-new : goal.returns-clause-new
returns-clause-new c =
    IfOk-weaker c.differing_of.result _ _ (λ elements found.
    found_in c.args.new.now c.args.old.now _ _ elements.items (rw (c.rows-2.ensures.rows) at c.in_ok-by_element-2.ensures.moved)
    (rw (c.rows.ensures.rows) at c.in_ok-by_element.ensures.moved)
    found) c.differing_of.ensures.new
