-- What is pushed to the empty list is all that is told of the row, and each of it has the row's number.
use Rattle.std.proofs.Common.{Some}
use Rattle.gtd_core.specs.Parts.{domain_tree}
use Rattle.gtd_warnings.proofs.RowFacts.{told_rows}
use Rattle.gtd_warnings.proofs.row.told_of_domain.Goals as goal

pub returns-clause-told : goal.returns-clause-told
returns-clause-told c =
    let made = c.in_ok-push_told_of.ensures in
    rw (made.2, c.new-told.ensures.items) made.1

pub returns-clause-rows : goal.returns-clause-rows
returns-clause-rows c =
    let made = c.in_ok-push_told_of.ensures in
    rw (made.2, c.new-told.ensures.items)
    (told_rows c.args.number c.args.asked.now (Some (domain_tree c.args.domain.now)) made.0 made.1)
