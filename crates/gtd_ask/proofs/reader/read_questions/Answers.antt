-- The answer about the bytes that were read whole is the answer about the input's file.
use Rattle.std.proofs.Common.{Global, Vec}
use Rattle.gtd_ask.proofs.ReadFacts.{of_table}
use Rattle.gtd_ask.specs.declared.question.Question.{Question}
use Rattle.gtd_ask.proofs.reader.read_questions.Goals as goal

pub returns-clause-file : goal.returns-clause-file
returns-clause-file g c =
    of_table (λ (found : Vec Question Global). found.items) c.in_ok-bytes.bytes.items _ c.read_table.result
    c.in_ok-bytes.ensures.few c.in_ok-bytes.ensures.whole (rw c.as_slice.ensures.value at c.read_table.ensures.table)
