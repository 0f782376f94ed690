-- The words of ends and of other closings differ, by checks of the tables of all languages.
use Rattle.gtd_phrases.proofs.AllTables.{all_closed, all_marked}
use Rattle.gtd_phrases.proofs.Closers.{no_closer}
use Rattle.gtd_phrases.proofs.Marks.{one_end}
use Rattle.gtd_phrases.proofs.laws.ends_are_read.Goals as goal

pub returns : goal.returns
returns c = record {
  one = λ language. one_end language (all_marked language);
  none = λ language. no_closer language (all_closed language);
}
