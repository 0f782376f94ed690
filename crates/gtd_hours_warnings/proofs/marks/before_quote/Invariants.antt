-- The bytes passed and those that the rest has before a quote are together those before the first quote.
use Rattle.std.proofs.Common.{◌≡◌, ◌+◌, length}
use Rattle.std.specs.List.{prefix_len}
use Rattle.gtd_hours_warnings.specs.Marks.{is_unquoted}
use Rattle.gtd_hours_warnings.proofs.marks.before_quote.Given as goal

abbrev pub invariant-loop-byte : goal.invariant-loop-byte
invariant-loop-byte l =
    (l.count + prefix_len is_unquoted l.rest ≡ prefix_len is_unquoted l.bytes) × (l.count + length l.rest ≡ length l.bytes)

abbrev pub decreases-loop-byte : goal.decreases-loop-byte
decreases-loop-byte l = length l.rest
