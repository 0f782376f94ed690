use Rattle.std.proofs.Common.{◌≡◌, ◌+◌, ◌++◌, [], ◌∷◌, ℕ, List, length, take}
use Rattle.gtd_faults.specs.Naming.{AreKept}
use Rattle.gtd_faults.specs.Standing.{IsRowOf}
use Rattle.gtd_faults.proofs.codes.take_codes.Given as goal

-- the codes so far are those of the row
abbrev pub invariant-loop-code : goal.invariant-loop-code
invariant-loop-code l =
    (bytes : List ℕ) (named : List (List ℕ)) → IsRowOf bytes l.fn.row → l.fn.row.number ≡ length named + 1
    → AreKept l.fn.path bytes named l.fn.by_code.items
    → AreKept l.fn.path bytes (named ++ take l.code-index l.codes ∷ []) l.by_code.items
