use Rattle.std.proofs.Common.{rules}
use Rattle.gtd_c.specs.Questions.{IsQuestion, IsQuestionClosed, no_question}
use Rattle.gtd_c.proofs.Answered.{one_more}
use Rattle.gtd_c.proofs.questions.close_all.Goals as goal

-- one more question is answered
pub loop-at-preserved : goal.loop-at-preserved
loop-at-preserved c = record {
  answered = one_more IsQuestion (IsQuestionClosed c.args.records.now) c.args.questions.now no_question no_question c.loop-at.at
      c.args.answers.now c.loop-at.answers c.loop-at.invariant.answered c.loop-at-test.true (search rules)
      (search rules) c.is_closed.result c.is_closed.ensures.closed;
}
