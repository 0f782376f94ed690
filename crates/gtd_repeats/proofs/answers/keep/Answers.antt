-- A right answer in place of another leaves all of them right, and the place is always there.
use Rattle.gtd_repeats.proofs.AnswerFacts.{kept_right}
use Rattle.gtd_repeats.proofs.answers.keep.Goals as goal

pub returns-in-Some : goal.returns-in-Some
returns-in-Some c = record {
  right = λ rows are right. kept_right rows c.args.answers.now.items c.args.place c.args.answer are right;
}
