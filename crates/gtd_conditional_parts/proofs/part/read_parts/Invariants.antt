-- The parts that were read, with those of the text that is left, are all; a fault of what is left is the first; and each part
-- that is left has an `@`.
use Rattle.std.proofs.Common.{◌≤◌, ◌+◌, ℕ, length}
use Rattle.gtd_hours_options.specs.Readings.{how_read}
use Rattle.gtd_conditional_parts.specs.Parts.{LacksAt}
use Rattle.gtd_conditional_parts.proofs.PartSteps.{FailsOn, GoesOn}
use Rattle.gtd_conditional_parts.proofs.part.read_parts.Given as goal

abbrev pub invariant-loop-part : goal.invariant-loop-part
invariant-loop-part l = record {
  fits : l.at + length l.rest ≤ length l.text;
  have : (found : ℕ) → LacksAt l.at l.rest found → ⊥;
  goes : GoesOn l.fn.subject (how_read l.fn.reading) l.means.rows.items 0 l.text l.parts.items l.at l.rest;
  fails : FailsOn l.fn.subject (how_read l.fn.reading) l.means.rows.items 0 l.text l.at l.rest;
}

abbrev pub decreases-loop-part : goal.decreases-loop-part
decreases-loop-part l = length l.rest
