-- Two answers to one request are the same line, command by command.
use Rattle.gtd_tool.proofs.AnswerLemmas.{one_answer}
use Rattle.gtd_tool.proofs.laws.one_line.Goals as goal

pub returns : goal.returns
returns c = record { answer = one_answer }
