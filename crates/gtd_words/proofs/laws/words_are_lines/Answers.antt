-- The pieces of a basic domain follow the grammar, and their numbers can be written, as its end is in range.
use Rattle.gtd_words.proofs.Paths.{basic_line, basic_written}
use Rattle.gtd_words.proofs.laws.words_are_lines.Goals as goal

pub returns : goal.returns
returns c = record {
  line = basic_line c.ends_are_right.ensures.in_range;
  written = basic_written c.ends_are_right.ensures.in_range;
}
