-- After the end nothing follows; otherwise the record that is taken is the next one of the text.
use Rattle.std.proofs.lemmas.Result.{IfOk-weaker}
use Rattle.gtd_faults.proofs.RowsFacts.{given_next, none_next}
use Rattle.gtd_faults.proofs.places.read_on.Goals as goal

pub returns-then-not-found : goal.returns-then-not-found
returns-then-not-found c = λ number text given. none_next number text (rw c.if-not-found.true at given)

pub returns : goal.returns
returns c = λ number text given.
    let has = rw c.if-not-found.false at given in
    IfOk-weaker c.next_row.result _ _ (λ found takes. given_next _ _ _ found number text _ has takes) c.next_row.ensures
