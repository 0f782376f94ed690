-- Two lines of the same words have the same pieces, by one check of the tables of all languages.
use Rattle.gtd_phrases.proofs.AllTables.{all_good}
use Rattle.gtd_phrases.proofs.Reading.{read}
use Rattle.gtd_phrases.proofs.laws.lines_are_read.Goals as goal

pub returns : goal.returns
returns c = λ language. read language (all_good language)
