-- The text holds what stands for the parts passed, and with the rest it holds all of it.
use Rattle.std.proofs.Common.{length}
use Rattle.gtd_hours_moments.specs.Plain.{plain_puts}
use Rattle.gtd_hours_moments.proofs.PlaceLemmas.{HoldsUpTo}
use Rattle.gtd_hours_moments.proofs.plain.with_parts.Given as goal

abbrev pub invariant-loop-part : goal.invariant-loop-part
invariant-loop-part l = HoldsUpTo l.plain (plain_puts l.clocks l.text l.rest) (plain_puts l.clocks l.text l.parts)

abbrev pub decreases-loop-part : goal.decreases-loop-part
decreases-loop-part l = length l.rest
