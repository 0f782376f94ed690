-- The text of a path spells its rectangles, no other list of rectangles has that text, and it has no quote.
use Rattle.gtd_picture.proofs.PathFacts.{one_path, path_has_no_quote, path_of_column, path_of_whole}
use Rattle.gtd_picture.proofs.laws.paths_read_back.Goals as goal

pub returns-clause-read : goal.returns-clause-read
returns-clause-read g c = path_of_column g.S.SecondSet.contains

pub returns-clause-whole : goal.returns-clause-whole
returns-clause-whole g c = path_of_whole

pub returns-clause-back : goal.returns-clause-back
returns-clause-back g c = one_path

pub returns-clause-unquoted : goal.returns-clause-unquoted
returns-clause-unquoted g c = path_has_no_quote
