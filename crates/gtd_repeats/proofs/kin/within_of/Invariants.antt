use Rattle.gtd_repeats.specs.Answers.{AreRight}
use Rattle.gtd_repeats.proofs.EarlyFacts.{NoneBefore}
use Rattle.gtd_repeats.proofs.kin.within_of.Given as goal

-- the answers stay right, and the row is within none of the rows of the entries so far
abbrev pub invariant-loop-entry : goal.invariant-loop-entry
invariant-loop-entry l = record {
  right : AreRight l.all.rows.now l.answers.items;
  none : NoneBefore l.all.rows.now l.row l.entries l.entry-index;
}
