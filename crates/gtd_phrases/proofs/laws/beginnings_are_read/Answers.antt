-- The first words of operators and days differ, by one check of the tables of all languages.
use Rattle.gtd_phrases.proofs.AllTables.{all_begun}
use Rattle.gtd_phrases.proofs.Beginnings.{day_first, no_operator, operator_first, same_operator}
use Rattle.gtd_phrases.proofs.laws.beginnings_are_read.Goals as goal

pub returns : goal.returns
returns c = record {
  operators = λ language. same_operator language (all_begun language);
  no_operator = λ language. no_operator language (all_begun language);
  day = λ language. day_first language (all_begun language);
  operator = λ language. operator_first language (all_begun language);
}
