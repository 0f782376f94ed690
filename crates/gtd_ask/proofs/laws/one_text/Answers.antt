-- Two texts of answers to the same questions about the same records are equal, line by line.
use Rattle.gtd_ask.proofs.AnswerFacts.{one_text}
use Rattle.gtd_ask.proofs.laws.one_text.Goals as goal

pub returns : goal.returns
returns c = record { one = one_text }
