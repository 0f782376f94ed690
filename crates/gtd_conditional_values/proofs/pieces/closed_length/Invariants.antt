-- What is left of the text is read on from what is open, and not more is open than bytes have been read.
use Rattle.std.proofs.Common.{◌≡◌, ◌≤◌, ◌+◌, false, drop}
use Rattle.gtd_conditional_values.specs.Pieces.{closed_length}
use Rattle.gtd_conditional_values.proofs.pieces.closed_length.Given as goal

abbrev pub invariant-loop-place : goal.invariant-loop-place
invariant-loop-place l = record {
  rest : closed_length false 0 l.text ≡ l.place + closed_length l.comment l.depth (drop l.place l.text);
  few : l.depth ≤ l.place;
}
