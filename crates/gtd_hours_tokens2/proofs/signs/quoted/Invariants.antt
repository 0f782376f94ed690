-- The comment is as long as one of which the bytes passed have been read, and they with those that are left are all bytes.
use Rattle.std.proofs.Common.{◌≡◌, ◌≤◌, ◌+◌, length}
use Rattle.gtd_hours_tokens2.specs.Signs.{quoted}
use Rattle.gtd_hours_tokens2.proofs.signs.quoted.Given as goal

abbrev pub invariant-loop-byte : goal.invariant-loop-byte
invariant-loop-byte l = record {
  count : quoted l.wide l.first l.bytes ≡ quoted l.wide l.passed l.rest;
  more : l.first ≤ l.passed;
  all : l.first + length l.bytes ≡ l.passed + length l.rest;
}

abbrev pub decreases-loop-byte : goal.decreases-loop-byte
decreases-loop-byte l = length l.rest
