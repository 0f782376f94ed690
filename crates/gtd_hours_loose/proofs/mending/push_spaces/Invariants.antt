-- The form holds the spaces of the bytes passed, and there is room to count the bytes that are left.
use Rattle.std.proofs.Common.{◌+◌, ◌<◌, ◌^◌, length}
use Rattle.gtd_hours_loose.specs.Mending.{spaces_in}
use Rattle.gtd_hours_loose.proofs.MendingLemmas.{HoldsSpaces}
use Rattle.gtd_hours_loose.proofs.mending.push_spaces.Given as goal

abbrev pub invariant-loop-byte : goal.invariant-loop-byte
invariant-loop-byte l = record {
  room : 0 < length l.rest → l.at + length l.rest < 2 ^ 63;
  holds : HoldsSpaces l.initial.form l.form l.at l.rest (spaces_in l.place l.bytes);
}

abbrev pub decreases-loop-byte : goal.decreases-loop-byte
decreases-loop-byte l = length l.rest
