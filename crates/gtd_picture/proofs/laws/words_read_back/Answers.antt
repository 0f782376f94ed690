-- Escaped words are read as the words that are seen, and words that look the same are the same.
use Rattle.gtd_picture.proofs.WordFacts.{words_back, words_read}
use Rattle.gtd_picture.proofs.laws.words_read_back.Goals as goal

pub returns-clause-read : goal.returns-clause-read
returns-clause-read c = words_read

pub returns-clause-back : goal.returns-clause-back
returns-clause-back c = words_back
