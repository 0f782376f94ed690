use Rattle.std.proofs.Common.{take, ℕ}
use Rattle.std.specs.Prelude.{string_bytes}
use Rattle.gtd_faults.specs.Standing.{StandsAt}
use Rattle.gtd_conditional_faults.specs.Listing.{AreLines}
use Rattle.gtd_conditional_faults.proofs.list.lines_of.Given as goal

-- the lines of the faults so far; the rows stand at one of the file
abbrev pub invariant-loop-fault : goal.invariant-loop-fault
invariant-loop-fault l =
    AreLines l.fn.path l.fn.bytes (take l.fault-index l.faults) (string_bytes l.text)
    × (number : ℕ) × StandsAt l.fn.bytes number l.rows
