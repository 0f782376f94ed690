-- A row without a fault is what its fields say.
use Rattle.gtd_conditional_means.proofs.RowFacts.{full_row}
use Rattle.gtd_conditional_means.proofs.fields.read_kind_row.Goals as goal

pub returns-in_ok-row_of-in-None : goal.returns-in_ok-row_of-in-None
returns-in_ok-row_of-in-None c = λ before are.
    let read = rw c.in-Some.is at c.in_ok-meaning.ensures in
    full_row c.args.number before c.args.kind c.args.columns.name.now c.args.columns.means.now c.in_ok-named.named
    c.is_repeated-repeated.result c.in-Some.meaning c.in_ok-row_of-in-None.field-0 c.in_ok-named.ensures
    (c.is_repeated-repeated.ensures before are) read.0 read.1 (c.in-None.ensures c.args.kind) c.in_ok-row_of-in-None.ensures.0
    c.in_ok-row_of-in-None.ensures.1
