-- Only loose spaces have been passed.
use Rattle.std.proofs.Common.{◌≤◌, ◌-◌, length}
use Rattle.gtd_hours_tokens2.proofs.CursorLemmas.{HasSameTokens}
use Rattle.gtd_hours_tokens2.proofs.cursor.first_token.Given as goal

abbrev pub invariant-loop-to : goal.invariant-loop-to
invariant-loop-to l = record {
  inside : l.place ≤ length l.text;
  same : HasSameTokens l.names l.text l.from l.place;
}

abbrev pub decreases-loop-to : goal.decreases-loop-to
decreases-loop-to l = length l.text - l.place
