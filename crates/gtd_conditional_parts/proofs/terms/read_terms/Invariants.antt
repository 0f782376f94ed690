-- The terms that were read, with those of the text that is left, are all; and a fault of what is left is the first.
use Rattle.std.proofs.Common.{◌≤◌, ◌+◌, length}
use Rattle.gtd_hours_options.specs.Readings.{how_read}
use Rattle.gtd_conditional_parts.proofs.TermSteps.{FailsOn, GoesOn}
use Rattle.gtd_conditional_parts.proofs.terms.read_terms.Given as goal

abbrev pub invariant-loop-term : goal.invariant-loop-term
invariant-loop-term l = record {
  fits : l.at + length l.rest ≤ 18446744073709551615;
  goes : GoesOn (how_read l.reading) l.means.rows.items l.place l.text l.terms.items l.at l.rest;
  fails : FailsOn (how_read l.reading) l.means.rows.items l.place l.text l.at l.rest;
}

abbrev pub decreases-loop-term : goal.decreases-loop-term
decreases-loop-term l = length l.rest
