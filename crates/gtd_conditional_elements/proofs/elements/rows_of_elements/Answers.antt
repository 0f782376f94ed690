-- One element more adds its rows, or its fault.
use Rattle.gtd_conditional_elements.proofs.ElementFacts.{each_more}
use Rattle.gtd_conditional_elements.proofs.elements.rows_of_elements.Goals as goal

pub loop-group-preserved : goal.loop-group-preserved
loop-group-preserved c =
    let added = c.in_ok-add_element.ensures in
    rw (added.2, added.3)
    (each_more c.args.means.now.rows.items c.loop-group.yielded c.in-Some.group c.loop-group.found.rows.items
    c.loop-group.found.faults.items added.0 added.1 c.loop-group.invariant)
