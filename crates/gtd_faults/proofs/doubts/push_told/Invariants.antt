use Rattle.std.proofs.Common.{◌≡◌, ◌++◌, ℕ, List, take}
use Rattle.std.specs.List.{All}
use Rattle.std.specs.Prelude.{string_bytes}
use Rattle.gtd_mistakes.specs.declared.told.Told.{Told}
use Rattle.gtd_faults.specs.Doubts.{AreDoubtLines}
use Rattle.gtd_faults.specs.Standing.{IsRowOf}
use Rattle.gtd_faults.proofs.doubts.push_told.Given as goal

-- the lines so far
abbrev pub invariant-loop-one : goal.invariant-loop-one
invariant-loop-one l =
    (bytes : List ℕ) (before : List Told) → IsRowOf bytes l.fn.row
    → All (λ (one : Told). one.row ≡ l.fn.row.number) l.told
    → AreDoubtLines l.fn.path bytes before (string_bytes l.fn.text)
    → AreDoubtLines l.fn.path bytes (before ++ take l.one-index l.told) (string_bytes l.text)
