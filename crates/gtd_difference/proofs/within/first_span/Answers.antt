-- The first span that the cursor gives is held by the domain and lies in the years that are searched.
use Rattle.std.proofs.Common.{arith}
use Rattle.std.proofs.lemmas.Int.{ints}
use Rattle.gtd_core.specs.Whole.{whole}
use Rattle.gtd_eval.specs.Cursors.{cursor_list}
use Rattle.gtd_eval.specs.Membership.{InDomain}
use Rattle.gtd_difference.proofs.Alone.{held-first}
use Rattle.gtd_difference.proofs.within.first_span.Goals as goal

pub returns-clause-held : goal.returns-clause-held
returns-clause-held c =
    let days = whole c.days_between.result in
    let first = c.days_between.ensures.first in
    let last = c.days_between.ensures.last in
    held-first (InDomain c.args.domain.now) days.from days.until (cursor_list c.in_ok-cursor.cursor) (cursor_list c.next.new.self)
    c.next.result (omega (arith, ints, first)) (omega (arith, ints, last)) c.in_ok-cursor.ensures.normal c.next.ensures.takes
