use Rattle.std.proofs.Common.{length}
use Rattle.gtd_repeats.proofs.FirstFacts.{NoneIn}
use Rattle.gtd_repeats.proofs.firsts.first_alike.Given as goal

-- none of the entries so far has a row that is alike
abbrev pub invariant-loop-entry : goal.invariant-loop-entry
invariant-loop-entry g l =
    NoneIn (g.L.Likeness.alike l.rows) l.asked.number l.asked.row (length l.firsts) l.entries l.entry-index
