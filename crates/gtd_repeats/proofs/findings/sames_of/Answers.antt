-- Rows that say the same close at the same seconds, so the first row with these seconds serves as their number.
use Rattle.gtd_repeats.proofs.NumberFacts.{share_row}
use Rattle.gtd_repeats.proofs.findings.sames_of.Goals as goal

pub firsts_of-requires-clause-numbers : goal.firsts_of-requires-clause-numbers
firsts_of-requires-clause-numbers c =
    rw c.as_slice.ensures.value
    (share_row c.args.rows.now c.in_ok-numbers.numbers.items c.args.meanings.now c.requires.meanings
    c.in_ok-numbers.ensures.numbers)
