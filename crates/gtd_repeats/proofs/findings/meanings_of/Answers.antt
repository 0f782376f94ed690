-- Rows with the same text, and rows with the same seconds, have the same number: so the first of each is found.
use Rattle.gtd_repeats.proofs.NumberFacts.{share_seconds, share_text}
use Rattle.gtd_repeats.proofs.findings.meanings_of.Goals as goal

pub firsts_of-requires-clause-numbers : goal.firsts_of-requires-clause-numbers
firsts_of-requires-clause-numbers c =
    rw c.as_slice-2.ensures.value (share_text c.args.rows.now c.in_ok-numbers.numbers.items c.in_ok-numbers.ensures.numbers)

pub finer_by_years-requires-clause-shares : goal.finer_by_years-requires-clause-shares
finer_by_years-requires-clause-shares c =
    share_seconds c.args.rows.now c.in_ok-numbers.numbers.items c.in_ok-numbers.ensures.numbers
