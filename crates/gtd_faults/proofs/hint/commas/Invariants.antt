use Rattle.std.proofs.Common.{◌≡◌, ◌≤◌, take}
use Rattle.std.specs.List.{count_by}
use Rattle.gtd_faults.specs.Hints.{is_comma}
use Rattle.gtd_faults.proofs.hint.commas.Given as goal

-- the commas so far
abbrev pub invariant-loop-byte : goal.invariant-loop-byte
invariant-loop-byte l = (l.count ≤ l.byte-index) × (l.count ≡ count_by is_comma (take l.byte-index l.line))
