use Rattle.std.proofs.Common.{◌≡◌, take, ℕ}
use Rattle.gtd_faults.specs.Standing.{StandsAt}
use Rattle.gtd_hours_file.specs.Warnings.{AreWarnings}
use Rattle.gtd_hours_file.proofs.warnings.warnings_of.Given as goal

-- the lines of the rows so far; the places stand at one of the file
abbrev pub invariant-loop-row : goal.invariant-loop-row
invariant-loop-row l =
    AreWarnings l.fn.path l.fn.bytes 1 (take l.row-index l.rows) l.text.items
    × (l.number ≡ l.row-index)
    × (number : ℕ) × StandsAt l.fn.bytes number l.places
