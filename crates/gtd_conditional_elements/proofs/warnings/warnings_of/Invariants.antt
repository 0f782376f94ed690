use Rattle.std.proofs.Common.{take, ℕ}
use Rattle.gtd_faults.specs.Standing.{StandsAt}
use Rattle.gtd_conditional_elements.specs.Warnings.{AreWarnings}
use Rattle.gtd_conditional_elements.proofs.warnings.warnings_of.Given as goal

-- the lines of the tags so far; the places stand at a row of the file
abbrev pub invariant-loop-tag : goal.invariant-loop-tag
invariant-loop-tag l =
    AreWarnings l.fn.path l.fn.bytes (take l.tag-index l.tags) l.text.items
    × (number : ℕ) × StandsAt l.fn.bytes number l.places
