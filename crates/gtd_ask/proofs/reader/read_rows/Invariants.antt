use Rattle.std.proofs.Common.{◌≡◌, ◌+◌, List, ℕ, Bor, Some, length}
use Rattle.std.specs.List.{All}
use Rattle.gtd_core.specs.Seconds.{IsMomentSecond}
use Rattle.gtd_rows.specs.Table.{HasLeft}
use Rattle.gtd_rows.specs.Columns.{Fields}
use Rattle.gtd_ask.proofs.ReadFacts.{SoFar}
use Rattle.gtd_ask.specs.declared.question.Question.{Question}
use Rattle.gtd_ask.proofs.reader.read_rows.Given as goal

-- the rows before this number were read as the questions found
abbrev pub invariant-loop-number : goal.invariant-loop-number
invariant-loop-number l = record {
  far : (rows : List Fields) → HasLeft (λ (source : Bor (List ℕ)). Some source.now) l.fn.reader rows
      → SoFar (λ (source : Bor (List ℕ)). Some source.now) l.reader rows l.found.items l.number;
  count : length l.found.items + 1 ≡ l.number;
  range : All (λ (q : Question). IsMomentSecond q.second.0) l.found.items;
}
