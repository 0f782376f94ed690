-- The comment goes on where the bytes passed end none, and they with those that are left are all bytes.
use Rattle.std.proofs.Common.{◌≡◌, ◌+◌, length}
use Rattle.gtd_hours_loose_tokens.specs.Signs.{quoted_length}
use Rattle.gtd_hours_loose_tokens.proofs.signs.quoted_length.Given as goal

abbrev pub invariant-loop-byte : goal.invariant-loop-byte
invariant-loop-byte l = record {
  count : quoted_length l.bytes ≡ l.passed + quoted_length l.rest;
  all : length l.bytes ≡ l.passed + length l.rest;
}

abbrev pub decreases-loop-byte : goal.decreases-loop-byte
decreases-loop-byte l = length l.rest
