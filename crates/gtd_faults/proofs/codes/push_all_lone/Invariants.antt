use Rattle.std.proofs.Common.{ℕ, List}
use Rattle.std.specs.Prelude.{string_bytes}
use Rattle.gtd_faults.specs.Naming.{AreKept, AreLoneBefore}
use Rattle.gtd_faults.proofs.codes.push_all_lone.Given as goal

-- the lines of the codes so far
abbrev pub invariant-loop-naming : goal.invariant-loop-naming
invariant-loop-naming l =
    (path bytes : List ℕ) (named : List (List ℕ)) → AreKept path bytes named l.by_code
    → AreLoneBefore path bytes named l.naming-index (string_bytes l.fn.text) (string_bytes l.text)
