use Rattle.std.proofs.Common.{List, ℕ, Bor, Some}
use Rattle.gtd_rows.specs.Columns.{Fields}
use Rattle.gtd_rows.specs.Table.{HasLeft}
use Rattle.gtd_rows.proofs.TakingFacts.{TakenSoFar}
use Rattle.gtd_rows.proofs.rows.take_rest.Given as goal

-- the rows before this number were taken
abbrev pub invariant-loop-number : goal.invariant-loop-number
invariant-loop-number g l = (rows : List Fields) → HasLeft (λ (source : Bor (List ℕ)). Some source.now) l.fn.reader rows
    → TakenSoFar g.T.RowTaker.takes (λ (source : Bor (List ℕ)). Some source.now) l.reader rows l.fn.taker l.taker l.number
