-- What is left of the text is read on from what is open, and not more is open than bytes have been read.
use Rattle.std.proofs.Common.{◌≡◌, ◌≤◌, ◌+◌, false, drop}
use Rattle.std.specs.Prelude.{option_map}
use Rattle.gtd_conditional_values.specs.Nesting.{unnested}
use Rattle.gtd_conditional_values.proofs.nesting.first_unnested.Given as goal

abbrev pub invariant-loop-place : goal.invariant-loop-place
invariant-loop-place l = record {
  rest : unnested false 0 l.text ≡ option_map (λ k. l.place + k) (unnested l.comment l.depth (drop l.place l.text));
  few : l.depth ≤ l.place;
}
