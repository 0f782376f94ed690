-- From the law that each text is tokens or has a first bad byte: each text is opening hours or has a first fault.
-- Its pieces are in range, and few.
use Rattle.gtd_hours_grammar.proofs.EachText.{each_text, few_pieces, in_range}
use Rattle.gtd_hours_grammar.proofs.laws.each_text.Goals as goal

pub returns-clause-some : goal.returns-clause-some
returns-clause-some c = each_text c.each_text.ensures.text

pub returns-clause-in_range : goal.returns-clause-in_range
returns-clause-in_range c = in_range c.each_text.ensures.text

pub returns-clause-few : goal.returns-clause-few
returns-clause-few c = few_pieces c.each_text.ensures.text
