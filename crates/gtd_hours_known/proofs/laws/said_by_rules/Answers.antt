-- The rules of hours are made of those of the text one by one.
use Rattle.gtd_hours_known.proofs.SaidRules.{said}
use Rattle.gtd_hours_known.proofs.laws.said_by_rules.Goals as goal

pub returns : goal.returns
returns c = record {
  seconds = λ known text found hours own is has owns second. said known found hours own has owns second;
}
