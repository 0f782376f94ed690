-- The words can be read back line by line, so two trees of the same words are one tree.
use Rattle.gtd_phrases.specs.declared.phrase.Language.{Language}
use Rattle.gtd_words.proofs.WordsLaw.{Facts, words_then}
use Rattle.gtd_words.proofs.laws.same_words.Goals as goal

pub returns : goal.returns
returns c =
    let facts : (l : Language) → Facts l = λ l. record {
      ends = c.ends_are_right.ensures.in_range;
      read = c.lines_are_read.ensures l;
      operators = c.beginnings_are_read.ensures.operators l;
      no_operator = c.beginnings_are_read.ensures.no_operator l;
      day = c.beginnings_are_read.ensures.day l;
      operator = c.beginnings_are_read.ensures.operator l;
    } in record { same = λ l. words_then l (facts l) }
