use Rattle.std.proofs.Common.{take}
use Rattle.std.specs.Prelude.{string_bytes}
use Rattle.gtd_repeats.specs.Listing.{AreFindingLines}
use Rattle.gtd_repeats.proofs.lines.text_of.Given as goal

-- the lines of the findings so far
abbrev pub invariant-loop-finding : goal.invariant-loop-finding
invariant-loop-finding l = AreFindingLines l.fn.path l.fn.bytes (take l.finding-index l.findings) (string_bytes l.text)
