-- At the front of any text no piece has been read.
use Rattle.gtd_hours_grammar.proofs.ReadingLemmas.{at_begin}
use Rattle.gtd_hours_grammar.proofs.reading.begin.Goals as goal

pub returns : goal.returns
returns c = at_begin
