-- Only plain spaces have been passed.
use Rattle.std.proofs.Common.{◌≡◌, ◌≤◌, ◌-◌, length}
use Rattle.gtd_hours_tokens2.specs.Cursors.{raw_from}
use Rattle.gtd_hours_tokens2.proofs.lexer.next_raw.Given as goal

abbrev pub invariant-loop-place : goal.invariant-loop-place
invariant-loop-place l = record {
  inside : l.place ≤ length l.text;
  further : l.from ≤ l.place;
  same : raw_from l.names l.text l.from ≡ raw_from l.names l.text l.place;
}

abbrev pub decreases-loop-place : goal.decreases-loop-place
decreases-loop-place l = length l.text - l.place
