-- In each form two texts of the same files are equal, and there is one: it is built element by element.
use Rattle.gtd_changes.proofs.FormFacts.{one_text, some_text}
use Rattle.gtd_changes.proofs.laws.one_text.Goals as goal

pub returns : goal.returns
returns c = record {
  one = λ form old new vehicle horizon. one_text old new vehicle horizon form;
  some = λ form old new vehicle horizon. some_text old new vehicle horizon form;
}
