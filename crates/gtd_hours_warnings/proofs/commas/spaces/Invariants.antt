-- The spaces passed and those that the rest begins with are together those that the bytes begin with.
use Rattle.std.proofs.Common.{◌≡◌, ◌+◌, length}
use Rattle.std.specs.List.{prefix_len}
use Rattle.gtd_hours_warnings.specs.Commas.{is_space}
use Rattle.gtd_hours_warnings.proofs.commas.spaces.Given as goal

abbrev pub invariant-loop-byte : goal.invariant-loop-byte
invariant-loop-byte l =
    (l.count + prefix_len is_space l.rest ≡ prefix_len is_space l.bytes) × (l.count + length l.rest ≡ length l.bytes)

abbrev pub decreases-loop-byte : goal.decreases-loop-byte
decreases-loop-byte l = length l.rest
