-- The bytes that were passed are written, and none is a quote.
use Rattle.std.proofs.Common.{◌≡◌, length}
use Rattle.gtd_hours_items.specs.Comments.{goes_to_quote}
use Rattle.gtd_hours_items.proofs.comments.goes_to_quote.Given as goal

abbrev pub invariant-loop-byte : goal.invariant-loop-byte
invariant-loop-byte l = goes_to_quote l.rest ≡ goes_to_quote l.bytes

abbrev pub decreases-loop-byte : goal.decreases-loop-byte
decreases-loop-byte l = length l.rest
