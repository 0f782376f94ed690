-- What is left of the text is cut on from what is open, and not more is open than bytes have been read.
use Rattle.std.proofs.Common.{◌≡◌, ◌≤◌, ◌+◌, false, drop}
use Rattle.gtd_conditional_values.specs.Terms.{term_length}
use Rattle.gtd_conditional_values.proofs.terms.term_length.Given as goal

abbrev pub invariant-loop-place : goal.invariant-loop-place
invariant-loop-place l = record {
  rest : term_length false false 0 l.text ≡ l.place + term_length l.joined l.comment l.depth (drop l.place l.text);
  few : l.depth ≤ l.place;
}
