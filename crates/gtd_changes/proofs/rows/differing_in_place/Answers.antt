-- What is found of the rows in place is said of the files themselves, whose rows they are.
use Rattle.std.proofs.lemmas.Result.{IfOk-weaker}
use Rattle.gtd_changes.proofs.rows.differing_in_place.Goals as goal

pub returns-clause-old : goal.returns-clause-old
returns-clause-old c =
    IfOk-weaker c.differing_of.result _ _ (λ elements found. rw (c.rows.ensures.rows, c.rows-2.ensures.rows) at found)
    c.differing_of.ensures.old

pub returns-clause-new : goal.returns-clause-new
returns-clause-new c =
    IfOk-weaker c.differing_of.result _ _ (λ elements found. rw (c.rows.ensures.rows, c.rows-2.ensures.rows) at found)
    c.differing_of.ensures.new
