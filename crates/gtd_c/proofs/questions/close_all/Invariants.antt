use Rattle.gtd_c.specs.Batches.{AreFirstAnswered}
use Rattle.gtd_c.specs.Questions.{IsQuestion, IsQuestionClosed, no_question}
use Rattle.gtd_c.proofs.questions.close_all.Given as goal

-- the questions so far are answered, and none else
abbrev pub invariant-loop-at : goal.invariant-loop-at
invariant-loop-at l = record {
  answered : AreFirstAnswered IsQuestion (IsQuestionClosed l.records) l.questions no_question l.at l.fn.answers l.answers;
}
