-- Words that say an end can be read in only one way, so the end read is the one found for each stretch.
use Rattle.gtd_phrases.specs.declared.phrase.Language.{Language}
use Rattle.gtd_words.proofs.EndLaws.{Facts, right_end, said_end}
use Rattle.gtd_words.proofs.laws.right_ends.Goals as goal

pub returns : goal.returns
returns c =
    let facts : (l : Language) → Facts l = λ l. record {
      ends = c.ends_are_right.ensures.in_range;
      right = c.ends_are_right.ensures.each;
      read = c.lines_are_read.ensures l;
      one = c.ends_are_read.ensures.one l;
      none = c.ends_are_read.ensures.none l;
    } in record {
      said = λ l. said_end l (facts l);
      each = λ l. right_end l (facts l);
      whole_day = λ start duration p q h. c.ends_are_right.ensures.whole_day start duration h;
    }
